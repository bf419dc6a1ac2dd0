-- Letters and marks, by ranges and keys.
-- Assumes nothing.
use Prim.Native.Nat.{ℕ, ◌≤◌, ◌<◌}
use mathlib.Core.Path.{◌≡◌, refl, sym}
use mathlib.Core.Bool.{Bool, true, false, not}
use mathlib.Core.List.{[], ◌∷◌}
use mathlib.Core.Logic.{◌⊎◌, inl, inr, ⊎_elim}
use native.Mathlib.Omega.{arith}
use lib.Dec.{leb, eqb}
use borrow.Author.Tests.{le-leb, lt-leb, eq-eqb, ne_eqb, eqb-false}
use types.Run.{OneOf}
use Rattle.lists.specs.Bytes.{between, is_letter, is_digit}
use Rattle.lists.proofs.Tests.{and-false}
use Rattle.engine.specs.Assign.{clean_byte}
use Rattle.link_names.specs.Names.{is_mark, byte_but}

module _ (b : ℕ) where
  inside : (low high : ℕ) → low ≤ b → b ≤ high → between low high b ≡ true
  inside low high h k = rw (le-leb low b h, le-leb b high k)

  below : (low high : ℕ) → b < low → between low high b ≡ false
  below low high h = rw (lt-leb low b h)

  above : (low high : ℕ) → high < b → between low high b ≡ false
  above low high h = rw (lt-leb b high h) (and-false (leb low b))

  pub letter_upper : 65 ≤ b → b ≤ 90 → true ≡ is_letter b
  letter_upper h k = rw (inside 65 90 h k)

  pub letter_lower : 97 ≤ b → b ≤ 122 → true ≡ is_letter b
  letter_lower h k = rw (above 65 90 (omega arith), inside 97 122 h k)

  pub letter_below : b < 65 → false ≡ is_letter b
  letter_below h = rw (below 65 90 h, below 97 122 (omega arith))

  pub letter_amid : 90 < b → b < 97 → false ≡ is_letter b
  letter_amid h k = rw (above 65 90 h, below 97 122 k)

  pub letter_above : 122 < b → false ≡ is_letter b
  letter_above h = rw (above 65 90 (omega arith), above 97 122 h)

  -- ---- marks: some by ranges, some by keys

  abbrev pub Keys : Type 0
  Keys = OneOf (35 ∷ 43 ∷ 58 ∷ 61 ∷ 64 ∷ 95 ∷ []) b

  pub mark_key : Keys → true ≡ is_mark b
  mark_key h =
      ⊎_elim (λ w. rw w) (⊎_elim (λ w. rw w) (⊎_elim (λ w. rw w) (⊎_elim (λ w. rw w) (⊎_elim (λ w. rw w) (λ w. rw w))))) h

  pub mark_none : (Keys → ⊥) → (45 ≡ b → ⊥) → (46 ≡ b → ⊥) → (47 ≡ b → ⊥) → false ≡ is_mark b
  mark_none h p q r =
      rw (
        ne_eqb 35 b (λ e. h (inl (sym e))),
        ne_eqb 43 b (λ e. h (inr (inl (sym e)))),
        ne_eqb 45 b p,
        ne_eqb 46 b q,
        ne_eqb 58 b (λ e. h (inr (inr (inl (sym e))))),
        ne_eqb 61 b (λ e. h (inr (inr (inr (inl (sym e)))))),
        ne_eqb 64 b (λ e. h (inr (inr (inr (inr (inl (sym e))))))),
        ne_eqb 95 b (λ e. h (inr (inr (inr (inr (inr (sym e))))))),
        ne_eqb 47 b r,
      )

  pub mark_range : 45 ≤ b → b ≤ 47 → true ≡ is_mark b
  mark_range h k = go (eqb 45 b) refl (eqb 46 b) refl
    where
      go : (s : Bool) → eqb 45 b ≡ s → (t : Bool) → eqb 46 b ≡ t → true ≡ is_mark b
      go true e t f = rw (ne_eqb 35 b (λ z. omega arith), ne_eqb 43 b (λ z. omega arith), e)
      go false e true f = rw (ne_eqb 35 b (λ z. omega arith), ne_eqb 43 b (λ z. omega arith), e, f)
      go false e false f =
          let x = eqb-false 45 b e in
          let y = eqb-false 46 b f in
          let z : b ≡ 47 = omega arith in
          rw z

  -- ---- the byte rule, test by test

  module _ (x y z : Bool) (p : x ≡ is_letter b) (q : y ≡ is_digit b) (r : z ≡ is_mark b) where
    pub clean_letter : x ≡ true → b ≡ clean_byte b
    clean_letter e = rw (← p, e)

    pub clean_digit : x ≡ false → y ≡ true → b ≡ clean_byte b
    clean_digit e f = rw (← p, e, ← q, f)

    pub clean_mark : x ≡ false → y ≡ false → z ≡ true → b ≡ clean_byte b
    clean_mark e f g = rw (← p, e, ← q, f, ← r, g)

    pub clean_other : x ≡ false → y ≡ false → z ≡ false → 95 ≡ clean_byte b
    clean_other e f g = rw (← p, e, ← q, f, ← r, g)

  -- ---- with spaces that stay, or not

  pub but-none : (spaces : Bool) (v : ℕ) → not spaces ≡ true → v ≡ clean_byte b → v ≡ byte_but spaces b
  but-none false v e h = h
  but-none true v e h = let z : ◌≡◌ {A = ℕ} 0 1 = cc in absurd (omega arith)

  pub but_space : (spaces : Bool) → not spaces ≡ false → b ≡ 32 → b ≡ byte_but spaces b
  but_space true e h = rw (eq-eqb b 32 h)
  but_space false e h = let z : ◌≡◌ {A = ℕ} 0 1 = cc in absurd (omega arith)

  pub but_other : (spaces : Bool) (v : ℕ) → not spaces ≡ false → (b ≡ 32 → ⊥) → v ≡ clean_byte b → v ≡ byte_but spaces b
  but_other true v e h k = rw (ne_eqb b 32 h) k
  but_other false v e h k = let z : ◌≡◌ {A = ℕ} 0 1 = cc in absurd (omega arith)
