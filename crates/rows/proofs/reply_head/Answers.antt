-- `rows::reply_head` meets its contract.
use Prim.Native.Nat.{ℕ, ◌+◌}
use mathlib.Core.Path.{ap, ◌∙◌}
use Rattle.bits.specs.Bits.{number_at}
use Rattle.rows.proofs.reply_head.Goals as goal

pub returns : goal.returns
returns c =
    let take = c.take-success in
    let take2 = c.take-command in
    let take3 = c.take-output in
    let take4 = c.take-unused in
    let head = c.args.head.now in
    let second = take2.ensures.next ∙ ap (λ (i : ℕ). i + 10) take.ensures.next in
    record {
      success = take.ensures.value;
      command = take2.ensures.value ∙ ap (λ (i : ℕ). number_at head i 10) take.ensures.next;
      output = take3.ensures.value ∙ ap (λ (i : ℕ). number_at head i 10) second;
      unused = take4.ensures.value ∙ ap (λ (i : ℕ). number_at head i 3) (take3.ensures.next ∙ ap (λ (i : ℕ). i + 10) second);
      command_few = take2.ensures.below;
      output_few = take3.ensures.below;
    }
