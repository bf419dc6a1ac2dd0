-- `rows::property_shape` meets its contract.
use Prim.Native.Nat.{ℕ}
use mathlib.Core.Path.{ap, ◌∙◌}
use Rattle.bits.specs.Bits.{number_at}
use Rattle.rows.proofs.property_shape.Goals as goal

pub returns : goal.returns
returns c =
    let take = c.take-key in
    let take2 = c.take-value in
    (take.ensures.value, take2.ensures.value ∙ ap (λ (i : ℕ). number_at c.args.head.now i 9) take.ensures.next, take.ensures.below, take2.ensures.below)
