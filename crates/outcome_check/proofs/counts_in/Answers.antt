-- `outcome_check::counts_in` meets its contract.
-- Assumes nothing.
use Prim.Native.Nat.{ℕ, ◌+◌}
use mathlib.Core.Path.{◌≡◌, ap, ◌∙◌}
use Rattle.bits.specs.Bits.{number_at}
use Rattle.outcome_check.proofs.counts_in.Goals as goal

pub returns : goal.returns
returns c =
    let head = c.args.head.now in
    let p1 : c.take-edition.result.next.at ≡ 4 = c.take-edition.ensures.next in
    let p2 : c.take-closed.result.next.at ≡ 10 = c.take-closed.ensures.next ∙ ap (λ (i : ℕ). i + 6) p1 in
    let p3 : c.take-owner.result.next.at ≡ 16 = c.take-owner.ensures.next ∙ ap (λ (i : ℕ). i + 6) p2 in
    let p4 : c.take-group.result.next.at ≡ 22 = c.take-group.ensures.next ∙ ap (λ (i : ℕ). i + 6) p3 in
    let p5 : c.take-mode_set.result.next.at ≡ 23 = c.take-mode_set.ensures.next ∙ ap (λ (i : ℕ). i + 1) p4 in
    let p6 : c.take-mode.result.next.at ≡ 35 = c.take-mode.ensures.next ∙ ap (λ (i : ℕ). i + 12) p5 in
    let p7 : c.take-priority.result.next.at ≡ 67 = c.take-priority.ensures.next ∙ ap (λ (i : ℕ). i + 32) p6 in
    let p8 : c.take-links.result.next.at ≡ 72 = c.take-links.ensures.next ∙ ap (λ (i : ℕ). i + 5) p7 in
    let p9 : c.take-properties.result.next.at ≡ 78 = c.take-properties.ensures.next ∙ ap (λ (i : ℕ). i + 6) p8 in
    let p10 : c.take-tags.result.next.at ≡ 83 = c.take-tags.ensures.next ∙ ap (λ (i : ℕ). i + 5) p9 in
    let p11 : c.take-runs.result.next.at ≡ 88 = c.take-runs.ensures.next ∙ ap (λ (i : ℕ). i + 5) p10 in
    let p12 : c.take-output.result.next.at ≡ 98 = c.take-output.ensures.next ∙ ap (λ (i : ℕ). i + 10) p11 in
    let p13 : c.take-watch.result.next.at ≡ 100 = c.take-watch.ensures.next ∙ ap (λ (i : ℕ). i + 2) p12 in
    record {
      edition = c.take-edition.ensures.value;
      owner = c.take-owner.ensures.value ∙ ap (λ (i : ℕ). number_at head i 6) p2;
      group = c.take-group.ensures.value ∙ ap (λ (i : ℕ). number_at head i 6) p3;
      mode_set = c.take-mode_set.ensures.value ∙ ap (λ (i : ℕ). number_at head i 1) p4;
      mode = c.take-mode.ensures.value ∙ ap (λ (i : ℕ). number_at head i 12) p5;
      links = c.take-links.ensures.value ∙ ap (λ (i : ℕ). number_at head i 5) p7;
      properties = c.take-properties.ensures.value ∙ ap (λ (i : ℕ). number_at head i 6) p8;
      tags = c.take-tags.ensures.value ∙ ap (λ (i : ℕ). number_at head i 5) p9;
      runs = c.take-runs.ensures.value ∙ ap (λ (i : ℕ). number_at head i 5) p10;
      output = c.take-output.ensures.value ∙ ap (λ (i : ℕ). number_at head i 10) p11;
      watch = c.take-watch.ensures.value ∙ ap (λ (i : ℕ). number_at head i 2) p12;
      unused = c.take-unused.ensures.value ∙ ap (λ (i : ℕ). number_at head i 4) p13;
    }
