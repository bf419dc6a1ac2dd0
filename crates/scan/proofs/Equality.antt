-- Two lists compared byte by byte: one law for each way on.
-- Assumes nothing.
use Prim.Native.Nat.{ℕ, zero, suc, ◌+◌, ◌-◌, ◌≤◌, ◌<◌}
use mathlib.Core.Path.{◌≡◌, refl, sym, ap, ◌∙◌}
use mathlib.Core.Bool.{Bool, true, false, ◌&&◌}
use mathlib.Core.List.{List, [], ◌∷◌}
use native.Mathlib.Omega.{arith}
use borrow.Author.Tests.{eq-eqb, ne_eqb}
use lib.ListN.{length, get_or, take, drop, drop_of_length-le}
use lib.Pointwise.{pointwise}
use lib.Seq.{drop-drop}
use lib.Dec.{eqb}
use Rattle.lists.specs.Bytes.{same_bytes, starts}
use Rattle.lists.proofs.Rest.{rest_at}
use Rattle.lists.proofs.Tests.{and-false}
use Rattle.scan.specs.Groups.{SameFrom}

pub same-unequal : (a b : List ℕ) → (length a ≡ length b → ⊥) → same_bytes a b ≡ false
unfolding same_bytes
same-unequal [] [] n = absurd (n refl)
same-unequal [] (y ∷ b) n = refl
same-unequal (x ∷ a) [] n = refl
same-unequal (x ∷ a) (y ∷ b) n = rw (same-unequal a b (λ e. n (omega arith))) (and-false (eqb x y))

-- what `==` and `starts_with` of two texts compare
pub same_pairs : (a b : List ℕ) → pointwise eqb a b ≡ same_bytes a b
unfolding same_bytes
same_pairs [] [] = refl
same_pairs [] (y ∷ b) = refl
same_pairs (x ∷ a) [] = refl
same_pairs (x ∷ a) (y ∷ b) = ap (λ t. eqb x y && t) (same_pairs a b)

pub starts_pairs : (name bs : List ℕ) → pointwise eqb name (take (length name) bs) ≡ starts name bs
unfolding starts
starts_pairs [] bs = refl
starts_pairs (x ∷ name) [] = refl
starts_pairs (x ∷ name) (y ∷ bs) = ap (λ t. eqb x y && t) (starts_pairs name bs)

module _ (a b : List ℕ) (i : ℕ) where
  pub same-on : i < length a → i < length b → get_or a i 0 ≡ get_or b i 0 → same_bytes (drop i a) (drop i b) ≡ same_bytes (drop (i + 1) a) (drop (i + 1) b)
  unfolding same_bytes
  same-on h k e = rw (rest_at a i h, rest_at b i k, eq-eqb _ _ e)

  pub same_differs : i < length a → i < length b → (get_or a i 0 ≡ get_or b i 0 → ⊥) → same_bytes (drop i a) (drop i b) ≡ false
  unfolding same_bytes
  same_differs h k n = rw (rest_at a i h, rest_at b i k, ne_eqb _ _ n)

  pub same_out : length a ≤ i → length b ≤ i → same_bytes (drop i a) (drop i b) ≡ true
  unfolding same_bytes
  same_out h k = rw (drop_of_length-le a h, drop_of_length-le b k)

-- a difference behind a place is a difference
same_late : (n : ℕ) (a b : List ℕ) → same_bytes (drop n a) (drop n b) ≡ false → same_bytes a b ≡ false
unfolding same_bytes
same_late zero a b e = e
same_late (suc n) [] [] e = e
same_late (suc n) [] (y ∷ b) e = refl
same_late (suc n) (x ∷ a) [] e = refl
same_late (suc n) (x ∷ a) (y ∷ b) e = rw (same_late n a b e) (and-false (eqb x y))

module _ (a b : List ℕ) (i j : ℕ) (h : i ≤ j) where
  pub differs-behind : same_bytes (drop j a) (drop j b) ≡ false → same_bytes (drop i a) (drop i b) ≡ false
  differs-behind e =
      let q : i + (j - i) ≡ j = omega arith in
      same_late (j - i) (drop i a) (drop i b) (rw (drop-drop (j - i) i a, drop-drop (j - i) i b, q) e)

  pub same-behind : same_bytes (drop i a) (drop i b) ≡ true → same_bytes (drop j a) (drop j b) ≡ true
  same-behind e = go (same_bytes (drop j a) (drop j b)) refl
    where
      go : (t : Bool) → same_bytes (drop j a) (drop j b) ≡ t → same_bytes (drop j a) (drop j b) ≡ true
      go true f = f
      go false f = let z : ◌≡◌ {A = ℕ} 0 1 = cc (differs-behind f, e) in absurd (omega arith)

-- two groups that may overlap: the first n bytes, and n from m on to the end
module _ (a b : List ℕ) (m n : ℕ) (h : m ≤ n) (k : length a ≤ m + n) (l : length a ≡ length b) where
  pub same_two : SameFrom a b 0 (0 + n) → (r : Bool) → (r ≡ true → SameFrom a b m (m + n)) → (r ≡ false → same_bytes (drop m a) (drop m b) ≡ false) → r ≡ same_bytes a b
  same_two f true g d = sym (f ∙ same-behind a b m (0 + n) (omega arith) (g refl ∙ same_out a b (m + n) k (omega arith)))
  same_two f false g d = sym (differs-behind a b 0 m (omega arith) (d refl))
