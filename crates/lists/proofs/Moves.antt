-- Laws of parts of a list: a part from index a up to index b is `take (b - a) (drop a t)`, as `&t[a..b]` is.
-- Assumes nothing.
use Prim.Native.Nat.{ℕ, zero, suc, ◌+◌, ◌-◌, ◌≤◌, ◌<◌}
use mathlib.Core.Path.{◌≡◌, refl, sym, ap, ◌∙◌}
use mathlib.Core.List.{List, [], ◌∷◌, ◌++◌, append_assoc}
use native.Mathlib.Nat.{not-suc-le-zero, le_of_suc-le-suc, suc-add, zero-add}
use native.Mathlib.Omega.{arith}
use lib.ListN.{length, get_or, take, drop, set, replicate, length-append, length-take, length-drop, take-append-drop}
use lib.Seq.{take_all, take_at, drop_at, take-append-le, drop-append-le, get_or-drop, drop-drop}
use Rattle.lists.specs.Bytes.{Bytes}

-- equal numbers give equal results; the numbers are written, so that `omega` can prove them equal
pub ap_at {ℓ} : {A : Type ℓ} (f : ℕ → A) (a b : ℕ) → a ≡ b → f a ≡ f b
ap_at f a b e = ap f e

-- ---- parts

module _ {A : Type 0} where
  -- before a, from a up to b, and from b on
  pub part-whole : (t : List A) (a b : ℕ) → a ≤ b → take a t ++ (take (b - a) (drop a t) ++ drop b t) ≡ t
  part-whole t a b h =
      let e : a + (b - a) ≡ b = omega arith in
      let d : drop (b - a) (drop a t) ≡ drop b t = drop-drop (b - a) a t ∙ ap (λ (n : ℕ). drop n t) e in
      ap (λ (l : List A). take a t ++ (take (b - a) (drop a t) ++ l)) (sym d)
      ∙ ap (λ (l : List A). take a t ++ l) (take-append-drop (b - a) (drop a t))
      ∙ take-append-drop a t

  pub length_part : (t : List A) (a b : ℕ) → b ≤ length t → length (take (b - a) (drop a t)) ≡ b - a
  length_part t a b h = simp (length-take, length-drop) (omega arith)

  pub part_none : (t : List A) (a b : ℕ) → b ≤ a → take (b - a) (drop a t) ≡ []
  part_none t a b h = let e : b - a ≡ 0 = omega arith in rw e

  -- the middle one of three, and what lies behind it
  pub part_at : (p g r : List A) (a b : ℕ) → length p ≡ a → a + length g ≡ b → take (b - a) (drop a (p ++ (g ++ r))) ≡ g
  part_at p g r a b lp lg =
      let e : length g ≡ b - a = omega arith in
      ap (take (b - a)) (drop_at p (g ++ r) a lp) ∙ take_at g r (b - a) e

  -- a part of a first part
  pub part-front : (p r : List A) (a n : ℕ) → a + n ≤ length p → take n (drop a (p ++ r)) ≡ take n (drop a p)
  part-front p r a n h =
      let l : a ≤ length p = omega arith in
      let k : n ≤ length (drop a p) = simp length-drop (omega arith) in
      ap (take n) (drop-append-le a p r l) ∙ take-append-le n (drop a p) r k

  -- `&s[start..]`, of a slice of n elements
  pub end-part : (s : List A) (n start : ℕ) → length s ≡ n → take (n - start) (drop start s) ≡ drop start s
  end-part s n start h = take_all (n - start) (drop start s) (simp length-drop (omega arith))

  -- `&s[start..start + n]`
  pub sized-part : (s : List A) (start n : ℕ) → take (start + n - start) (drop start s) ≡ take n (drop start s)
  sized-part s start n = ap_at (λ i. take i (drop start s)) (start + n - start) n (omega arith)

  pub drop_past : (p g r : List A) (a b : ℕ) → length p ≡ a → a + length g ≡ b → drop b (p ++ (g ++ r)) ≡ r
  drop_past p g r a b lp lg =
      let e : length (p ++ g) ≡ b = length-append p g ∙ omega arith in
      rw (← append_assoc p g r) (drop_at (p ++ g) r b e)

-- ---- past a first part

module _ {A : Type 0} where
  -- a store over the last of the first elements
  pub set_last : (t r : List A) (i : ℕ) (v : A) → i < length t → set (take (suc i) t ++ r) i v ≡ take i t ++ (v ∷ r)
  set_last [] r i v h = absurd (not-suc-le-zero h)
  set_last (x ∷ t) r zero v h = refl
  set_last (x ∷ t) r (suc i) v h = ap (λ (l : List A). x ∷ l) (set_last t r i v (le_of_suc-le-suc h))

  pub set-append-add : (xs ys : List A) (n : ℕ) (a : A) → set (xs ++ ys) (length xs + n) a ≡ xs ++ set ys n a
  set-append-add [] ys n a = rw zero-add
  set-append-add (x ∷ xs) ys n a = rw suc-add (ap (λ (l : List A). x ∷ l) (set-append-add xs ys n a))

  -- ---- equal elements

  pub drop-replicate : (k m : ℕ) (a : A) → drop k (replicate m a) ≡ replicate (m - k) a
  drop-replicate zero m a = ap_at (λ i. replicate i a) m (m - 0) (omega arith)
  drop-replicate (suc k) zero a = ap_at (λ i. replicate i a) 0 (0 - suc k) (omega arith)
  drop-replicate (suc k) (suc m) a = drop-replicate k m a ∙ ap_at (λ i. replicate i a) (m - k) (suc m - suc k) (omega arith)

-- ---- parts of bytes

pub bytes_take : (n : ℕ) (s : List ℕ) → Bytes s → Bytes (take n s)
bytes_take zero s b i = omega arith
bytes_take (suc n) [] b i = omega arith
bytes_take (suc n) (x ∷ s) b zero = b 0
bytes_take (suc n) (x ∷ s) b (suc i) = bytes_take n s (λ j. b (suc j)) i

pub bytes_drop : (n : ℕ) (s : List ℕ) → Bytes s → Bytes (drop n s)
bytes_drop n s b i = rw (get_or-drop n s i 0) (b (n + i))
