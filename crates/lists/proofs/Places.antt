-- Laws of places: the element at a place, and a list that begins another.
-- Assumes nothing.
use Prim.Native.Nat.{ℕ, zero, suc, ◌≤◌, ◌<◌, zero-le, suc-le-suc}
use mathlib.Core.Path.{◌≡◌, refl, ap, subst}
use mathlib.Core.Bool.{Bool, true, false, ◌&&◌}
use mathlib.Core.List.{List, [], ◌∷◌, map}
use Rattle.std.specs.Prelude.{Option, Some}
use Rattle.std.proofs.lemmas.Option.{none-some, same_Some}
use native.Mathlib.Nat.{le_of_suc-le-suc, not-suc-le-zero}
use native.Mathlib.Omega.{arith}
use lib.Dec.{eqb}
use lib.ListN.{length, get_or, take}
use Rattle.lists.specs.Lists.{nth, all, All}
use Rattle.lists.specs.Bytes.{same_bytes, starts}
use Rattle.lists.proofs.Tests.{and_both, and-false}

module _ {A : Type 0} where
  -- a fact of each element, at a place
  pub nth-all : (P : A → Type 0) (xs : List A) (k : ℕ) (a : A) → nth k xs ≡ Some a → All P xs → P a
  nth-all P [] k a e h = absurd (none-some a e)
  nth-all P (x ∷ xs) zero a e (h, hs) = subst P (same_Some x a e) h
  nth-all P (x ∷ xs) (suc k) a e (h, hs) = nth-all P xs k a e hs

  -- a test that each element passes, at a place
  pub get_or-all : (ok : A → Bool) (xs : List A) (k : ℕ) (d : A) → all ok xs ≡ true → k < length xs → ok (get_or xs k d) ≡ true
  get_or-all ok [] k d h l = absurd (not-suc-le-zero l)
  get_or-all ok (x ∷ xs) zero d h l = (and_both (ok x) (all ok xs) h).0
  get_or-all ok (x ∷ xs) (suc k) d h l = get_or-all ok xs k d (and_both (ok x) (all ok xs) h).1 (le_of_suc-le-suc l)

  pub nth-map : {B : Type 0} (f : A → B) (xs : List A) (k : ℕ) (d : A) → k < length xs → nth k (map f xs) ≡ Some (f (get_or xs k d))
  nth-map f [] k d l = absurd (not-suc-le-zero l)
  nth-map f (x ∷ xs) zero d l = refl
  nth-map f (x ∷ xs) (suc k) d l = nth-map f xs k d (le_of_suc-le-suc l)

-- ---- a list that begins another

pub starts-same : (p s : List ℕ) → length p ≤ length s → starts p s ≡ same_bytes p (take (length p) s)
unfolding starts same_bytes
starts-same [] s h = refl
starts-same (x ∷ p) [] h = absurd (not-suc-le-zero h)
starts-same (x ∷ p) (y ∷ s) h = ap (λ (t : Bool). eqb x y && t) (starts-same p s (le_of_suc-le-suc h))

pub starts_short : (p s : List ℕ) → length s < length p → starts p s ≡ false
unfolding starts
starts_short [] s h = absurd (not-suc-le-zero h)
starts_short (x ∷ p) [] h = refl
starts_short (x ∷ p) (y ∷ s) h = rw (starts_short p s (le_of_suc-le-suc h)) (and-false (eqb x y))

pub starts-length : (p s : List ℕ) → starts p s ≡ true → length p ≤ length s
unfolding starts
starts-length [] s h = zero-le
starts-length (x ∷ p) [] h = let z : ◌≡◌ {A = ℕ} 0 1 = cc in absurd (omega arith)
starts-length (x ∷ p) (y ∷ s) h = suc-le-suc (starts-length p s (and_both (eqb x y) (starts p s) h).1)
