-- Laws of lists that the records need.
-- Assumes nothing.
use Prim.Native.Nat.{ℕ, zero, suc, ◌+◌, ◌-◌, ◌≤◌, ◌<◌}
use mathlib.Core.Path.{◌≡◌, refl, sym, ap, ◌∙◌}
use mathlib.Core.Bool.{Bool, ◌&&◌, and_assoc}
use mathlib.Core.List.{List, [], ◌∷◌, ◌++◌}
use Rattle.std.specs.Prelude.{Some}
use native.Mathlib.Nat.{not-suc-le-zero, le_of_suc-le-suc}
use native.Mathlib.Omega.{arith}
use lib.ListN.{length, drop, length-append, length-drop}
use lib.Seq.{drop_at, drop-drop}
use Rattle.lists.specs.Lists.{all, nth}
use Rattle.lists.specs.Bytes.{Bytes}

pub bytes-first : (p r : List ℕ) → Bytes (p ++ r) → Bytes p
bytes-first [] r h i = omega arith
bytes-first (x ∷ p) r h zero = h 0
bytes-first (x ∷ p) r h (suc i) = bytes-first p r (λ j. h (suc j)) i

pub all_join : {A : Type 0} (ok : A → Bool) (xs ys : List A) → all ok (xs ++ ys) ≡ (all ok xs && all ok ys)
all_join ok [] ys = refl
all_join ok (x ∷ xs) ys = ap (λ (t : Bool). ok x && t) (all_join ok xs ys) ∙ sym (and_assoc (ok x) (all ok xs) (all ok ys))

-- what is left behind a part begins where the lengths say
module _ {A : Type 0} (l : List A) (at : ℕ) (x r : List A) (h : at ≤ length l) (e : drop at l ≡ x ++ r) where
  pub rest-place : length l - length r ≡ at + length x
  rest-place = omega (arith, ap length e, length-drop at l, length-append x r)

  pub rest_there : drop (length l - length r) l ≡ r
  rest_there =
      ap (λ (i : ℕ). drop i l) rest-place
      ∙ sym (drop-drop (length x) at l)
      ∙ ap (drop (length x)) e
      ∙ drop_at x r (length x) refl

-- ---- an element by its place

pub nth_in : {A : Type 0} (xs : List A) (k : ℕ) (x : A) → nth k xs ≡ Some x → k < length xs
nth_in [] k x e = let z : ◌≡◌ {A = ℕ} 0 1 = cc in absurd (omega arith)
nth_in (y ∷ xs) zero x e = omega arith
nth_in (y ∷ xs) (suc k) x e = let h = nth_in xs k x e in omega arith

pub nth_there : {A : Type 0} (xs : List A) (k : ℕ) → k < length xs → (x : A) × (nth k xs ≡ Some x)
nth_there [] k h = absurd (not-suc-le-zero h)
nth_there (x ∷ xs) zero h = (x, refl)
nth_there (x ∷ xs) (suc k) h = nth_there xs k (le_of_suc-le-suc h)
