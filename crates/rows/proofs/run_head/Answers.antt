-- `rows::run_head` meets its contract.
use Prim.Native.Nat.{ℕ, ◌+◌}
use mathlib.Core.Path.{ap, ◌∙◌}
use Rattle.bits.specs.Bits.{number_at}
use Rattle.rows.proofs.run_head.Goals as goal

pub returns : goal.returns
returns c =
    let take = c.take-builtin in
    let take2 = c.take-place in
    let a = c.args in
    let take3 = c.take-len in
    record {
      builtin = take.ensures.value;
      place = take2.ensures.value ∙ ap (λ (i : ℕ). number_at a.head.now i 5) take.ensures.next;
      len = take3.ensures.value ∙ ap (λ (i : ℕ). number_at a.head.now i 9) (take2.ensures.next ∙ ap (λ (i : ℕ). i + 5) take.ensures.next);
      unused = c.take-unused.ensures.value ∙ ap (λ (i : ℕ). number_at a.head.now i 1) (take3.ensures.next ∙ ap (λ (i : ℕ). i + 9) (take2.ensures.next ∙ ap (λ (i : ℕ). i + 5) take.ensures.next));
      few = take3.ensures.below;
    }
