-- A field that the cursor took is the one that the definitions read.
-- Assumes nothing.
use Prim.Native.Nat.{ℕ, ◌+◌, ◌*◌, ◌≤◌}
use mathlib.Core.Path.{◌≡◌, sym, ap, ◌∙◌}
use mathlib.Core.List.{List}
use lib.ListN.{length, take, drop}
use Rattle.bits.specs.Bits.{number_at}
use Rattle.entries.proofs.Heads.{number-part, number-first}

module _ (l : List ℕ) where
  -- in the header
  pub head_field : (a p n v : ℕ) → 7 ≤ length l → a ≡ p → p + n ≤ 56 → v ≡ number_at l a n → v ≡ number_at (take 7 l) p n
  head_field a p n v h e k t = t ∙ ap (λ (i : ℕ). number_at l i n) e ∙ sym (number-first l 7 p n h k)

  -- in front of the device at place `at`
  pub lens_field : (at a p n v : ℕ) → at + 4 ≤ length l → a ≡ 8 * at + p → p + n ≤ 32 → v ≡ number_at l a n → v ≡ number_at (take 4 (drop at l)) p n
  lens_field at a p n v h e k t = t ∙ ap (λ (i : ℕ). number_at l i n) e ∙ sym (number-part l at 4 p n h k)
