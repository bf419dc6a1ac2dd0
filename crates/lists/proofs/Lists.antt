-- Laws of tests and facts over lists of any type.
-- Assumes nothing.
use Prim.Native.Nat.{ℕ, suc, ◌*◌, ◌≤◌}
use mathlib.Core.Path.{◌≡◌, refl, sym, ap, ◌∙◌}
use mathlib.Core.Bool.{Bool, true, false}
use mathlib.Core.List.{List, [], ◌∷◌, ◌++◌, map, append_assoc}
use native.Mathlib.Nat.{mul-suc}
use native.Mathlib.Omega.{arith}
use lib.ListN.{length, length-append}
use Rattle.std.specs.Prelude.{Option, None, Some}
use Rattle.lists.specs.Lists.{pick, all, reject, cat, All, is_some, is_empty}
use Rattle.lists.proofs.Tests.{and_both, both_and}

module _ {A : Type 0} (ok : A → Bool) where
  -- ---- all

  pub all_append : (xs ys : List A) → all ok xs ≡ true → all ok ys ≡ true → all ok (xs ++ ys) ≡ true
  all_append [] ys h k = k
  all_append (x ∷ xs) ys h k =
      let (p, q) = and_both (ok x) (all ok xs) h in
      both_and (ok x) (all ok (xs ++ ys)) p (all_append xs ys q k)

  pub all_snoc : (xs : List A) (x : A) → all ok xs ≡ true → ok x ≡ true → all ok (xs ++ (x ∷ [])) ≡ true
  all_snoc xs x h k = all_append xs (x ∷ []) h (rw k)

  pub all_split : (xs ys : List A) → all ok (xs ++ ys) ≡ true → (all ok xs ≡ true) × (all ok ys ≡ true)
  all_split [] ys h = (refl, h)
  all_split (x ∷ xs) ys h =
      let (p, q) = and_both (ok x) (all ok (xs ++ ys)) h in
      let (l, r) = all_split xs ys q in
      (both_and (ok x) (all ok xs) p l, r)

  pub all_map : (f : A → A) → ((x : A) → ok x ≡ true → ok (f x) ≡ true) → (xs : List A) → all ok xs ≡ true → all ok (map f xs) ≡ true
  all_map f g [] h = refl
  all_map f g (x ∷ xs) h =
      let (p, q) = and_both (ok x) (all ok xs) h in
      both_and (ok (f x)) (all ok (map f xs)) (g x p) (all_map f g xs q)

-- ---- reject

pub pick_both : {A : Type 0} (P : A → Type 0) (t : Bool) (a b : A) → P a → P b → P (pick t a b)
pick_both P true a b h k = h
pick_both P false a b h k = k

module _ {A : Type 0} (out : A → Bool) where
  pub reject-size : (xs : List A) → length (reject out xs) ≤ length xs
  reject-size [] = omega arith
  reject-size (x ∷ xs) =
      let i = reject-size xs in
      pick_both (λ (l : List A). length l ≤ suc (length xs)) (out x) (reject out xs) (x ∷ reject out xs) (omega arith) (omega arith)

  pub reject-all : (ok : A → Bool) (xs : List A) → all ok xs ≡ true → all ok (reject out xs) ≡ true
  reject-all ok [] h = refl
  reject-all ok (x ∷ xs) h =
      let (a, b) = and_both (ok x) (all ok xs) h in
      let i = reject-all ok xs b in
      pick_both (λ (l : List A). all ok l ≡ true) (out x) (reject out xs) (x ∷ reject out xs) i (both_and (ok x) (all ok (reject out xs)) a i)

module _ {A B : Type 0} (f : A → List B) where
  -- ---- cat

  pub cat-append : (xs ys : List A) → cat f (xs ++ ys) ≡ cat f xs ++ cat f ys
  cat-append [] ys = refl
  cat-append (x ∷ xs) ys = ap (λ (l : List B). f x ++ l) (cat-append xs ys) ∙ sym (append_assoc (f x) (cat f xs) (cat f ys))

  -- where each part has at most n elements, all of them have n for each part
  pub cat-size : (ok : A → Bool) (n : ℕ) → ((x : A) → ok x ≡ true → length (f x) ≤ n) → (xs : List A) → all ok xs ≡ true → length (cat f xs) ≤ n * length xs
  cat-size ok n g [] h = omega arith
  cat-size ok n g (x ∷ xs) h =
      let o = and_both (ok x) (all ok xs) h in
      let i = cat-size ok n g xs o.1 in
      let j = g x o.0 in
      omega (arith, length-append (f x) (cat f xs), mul-suc n (length xs))

-- ---- All

pub All-map : {A : Type 0} (P Q : A → Type 0) → ((a : A) → P a → Q a) → (xs : List A) → All P xs → All Q xs
All-map P Q f [] h = tt
All-map P Q f (x ∷ xs) (h, hs) = (f x h, All-map P Q f xs hs)

module _ {A : Type 0} (P : A → Type 0) where
  pub All-append : (xs ys : List A) → All P xs → All P ys → All P (xs ++ ys)
  All-append [] ys h k = k
  All-append (x ∷ xs) ys (h, hs) k = (h, All-append xs ys hs k)

  pub All-split : (xs ys : List A) → All P (xs ++ ys) → All P xs × All P ys
  All-split [] ys h = (tt, h)
  All-split (x ∷ xs) ys (h, hs) = let s = All-split xs ys hs in ((h, s.0), s.1)

  pub All_each : ((a : A) → P a) → (xs : List A) → All P xs
  All_each f [] = tt
  All_each f (x ∷ xs) = (f x, All_each f xs)

pub all_each : {A : Type 0} (ok : A → Bool) (xs : List A) → all ok xs ≡ true → All (λ (x : A). ok x ≡ true) xs
all_each ok [] h = tt
all_each ok (x ∷ xs) h = let (p, q) = and_both (ok x) (all ok xs) h in (p, all_each ok xs q)

-- ---- what is there, and what is empty

pub is-some : {A : Type 0} (o : Option A) → is_some o ≡ true → (a : A) × (o ≡ Some a)
is-some None h = let z : ◌≡◌ {A = ℕ} 0 1 = cc in absurd (omega arith)
is-some (Some a) h = (a, refl)

pub is_none : {A : Type 0} (o : Option A) → is_some o ≡ false → o ≡ None
is_none None h = refl
is_none (Some a) h = let z : ◌≡◌ {A = ℕ} 0 1 = cc in absurd (omega arith)

pub empty_list : (x : List ℕ) → length x ≡ 0 → is_empty x ≡ true
empty_list [] h = refl
empty_list (b ∷ x) h = absurd (omega arith)
