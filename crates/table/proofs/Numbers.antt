-- Four numbers at a place.
-- Assumes nothing.
use Prim.Native.Nat.{ℕ, ◌+◌, ◌≤◌}
use mathlib.Core.Path.{◌≡◌, ◌∙◌}
use mathlib.Core.List.{List}
use native.Mathlib.Omega.{arith}
use lib.ListN.{length, set, length-set}
use lib.Seq.{get_or-set_same, get_or-set_other}
use Rattle.table.specs.Puts.{Four}

module _ (l : List ℕ) (at a b c d : ℕ) (room : at + 4 ≤ length l) where
  pub four : Four at a b c d l (set (set (set (set l at a) (at + 1) b) (at + 2) c) (at + 3) d)
  four =
      let l₁ = set l at a in
      let l₂ = set l₁ (at + 1) b in
      let l₃ = set l₂ (at + 2) c in
      let n₁ : length l₁ ≡ length l = length-set l at a in
      let n₂ : length l₂ ≡ length l₁ = length-set l₁ (at + 1) b in
      let n₃ : length l₃ ≡ length l₂ = length-set l₂ (at + 2) c in
      record {
        first =
            get_or-set_other l₃ (at + 3) at d 0 (λ o. omega arith) ∙ get_or-set_other l₂ (at + 2) at c 0 (λ o. omega arith)
            ∙ get_or-set_other l₁ (at + 1) at b 0 (λ o. omega arith) ∙ get_or-set_same l at a 0 (omega arith);
        second =
            get_or-set_other l₃ (at + 3) (at + 1) d 0 (λ o. omega arith) ∙ get_or-set_other l₂ (at + 2) (at + 1) c 0 (λ o. omega arith)
            ∙ get_or-set_same l₁ (at + 1) b 0 (omega arith);
        third = get_or-set_other l₃ (at + 3) (at + 2) d 0 (λ o. omega arith) ∙ get_or-set_same l₂ (at + 2) c 0 (omega arith);
        fourth = get_or-set_same l₃ (at + 3) d 0 (omega arith);
        before = λ k m.
            get_or-set_other l₃ (at + 3) k d 0 (λ o. omega arith) ∙ get_or-set_other l₂ (at + 2) k c 0 (λ o. omega arith)
            ∙ get_or-set_other l₁ (at + 1) k b 0 (λ o. omega arith) ∙ get_or-set_other l at k a 0 (λ o. omega arith);
        size = length-set l₃ (at + 3) d ∙ n₃ ∙ n₂ ∙ n₁;
      }
