-- `listing_commands::head_of` meets its contract.
use lib.Dec.{eqb}
use Prim.Native.Nat.{ℕ}
use mathlib.Core.Path.{ap, ◌∙◌}
use Rattle.bits.specs.Bits.{number_at}
use Rattle.lists.proofs.Moves.{ap_at}
use native.Mathlib.Omega.{arith}
use Rattle.listing_commands.proofs.head_of.Goals as goal

pub returns : goal.returns
returns c =
    let entry = c.args in
    let take = c.take-builtin in
    record
    { builtin = ap (λ (n : ℕ). eqb n 1) take.ensures.value; len = c.take-len.ensures.value ∙ ap_at (λ i. number_at entry.entry.now i 10) take.result.next.at 1 (omega (arith, take.ensures.next)) }
