-- Laws of lists of bytes: equality both ways, membership, distinctness, no NUL.
-- Assumes nothing.
use Prim.Native.Nat.{ℕ, zero, suc, ◌+◌, ◌<◌, ◌≤◌}
use mathlib.Core.Path.{◌≡◌, refl, sym, ap, ap₂, ◌∙◌, subst}
use mathlib.Core.Bool.{Bool, true, false, not, ◌&&◌, ◌||◌, or-false, or_assoc}
use mathlib.Core.List.{List, [], ◌∷◌, ◌++◌, map}
use native.Mathlib.Omega.{arith}
use borrow.Author.Tests.{not-true, eqb-true, eq-eqb}
use lib.Dec.{eqb}
use lib.ListN.{length, get_or, drop}
use lib.Seq.{get_or-append-add, drop-nil}
use Rattle.lists.specs.Lists.{all, any, reject}
use Rattle.lists.specs.Bytes.{Bytes, is_space, is_digit, same_bytes, holds, clean, among, distinct}
use Rattle.lists.specs.Runs.{Part, span, span_step, onto, split_step, split_at, last_of, trim, trim_step, end_digits, chomp}
use Rattle.lists.proofs.Lists.{pick_both}
use Rattle.lists.proofs.Tests.{and_both, both_and, neither, eqb-sym}

pub bytes_rest : (p r : List ℕ) → Bytes (p ++ r) → Bytes r
bytes_rest p r h i = rw (← get_or-append-add p r i 0) (h (length p + i))

-- ---- equality

pub same_refl : (a : List ℕ) → same_bytes a a ≡ true
unfolding same_bytes
same_refl [] = refl
same_refl (x ∷ a) = both_and (eqb x x) (same_bytes a a) (eq-eqb x x refl) (same_refl a)

-- equal lists are the same, and the other way round
pub eq-same : (a b : List ℕ) → a ≡ b → same_bytes a b ≡ true
eq-same a b e = subst (λ (l : List ℕ). same_bytes a l ≡ true) e (same_refl a)

pub same-eq : (a b : List ℕ) → same_bytes a b ≡ true → a ≡ b
unfolding same_bytes
same-eq [] [] h = refl
same-eq [] (y ∷ b) h = let z : ◌≡◌ {A = ℕ} 0 1 = cc in absurd (omega arith)
same-eq (x ∷ a) [] h = let z : ◌≡◌ {A = ℕ} 0 1 = cc in absurd (omega arith)
same-eq (x ∷ a) (y ∷ b) h =
    let (p, q) = and_both (eqb x y) (same_bytes a b) h in
    ap₂ (λ (n : ℕ) (l : List ℕ). n ∷ l) (eqb-true x y p) (same-eq a b q)

pub same-sym : (a b : List ℕ) → same_bytes a b ≡ same_bytes b a
unfolding same_bytes
same-sym [] [] = refl
same-sym [] (y ∷ b) = refl
same-sym (x ∷ a) [] = refl
same-sym (x ∷ a) (y ∷ b) = ap₂ ◌&&◌ (eqb-sym x y) (same-sym a b)

-- ---- membership and distinctness

pub among_snoc : (y x : List ℕ) (ys : List (List ℕ)) → among y (ys ++ (x ∷ [])) ≡ (among y ys || same_bytes x y)
among_snoc y x [] = or-false (same_bytes x y)
among_snoc y x (z ∷ ys) = ap (λ (t : Bool). same_bytes z y || t) (among_snoc y x ys) ∙ sym (or_assoc (same_bytes z y) (among y ys) (same_bytes x y))

pub distinct_snoc : (xs : List (List ℕ)) (x : List ℕ) → distinct xs ≡ true → among x xs ≡ false → distinct (xs ++ (x ∷ [])) ≡ true
distinct_snoc [] x h k = refl
distinct_snoc (y ∷ ys) x h k =
    let (n, d) = and_both (not (among y ys)) (distinct ys) h in
    let (a, b) = neither (same_bytes y x) (among x ys) k in
    let e : among y (ys ++ (x ∷ [])) ≡ false = among_snoc y x ys ∙ ap₂ ◌||◌ (not-true (among y ys) n) (same-sym x y ∙ a) in
    rw (e, distinct_snoc ys x d b)

-- elements whose names are distinct still are where some of them are gone
module _ {A : Type 0} (name : A → List ℕ) (out : A → Bool) where
  reject-among : (z : List ℕ) (xs : List A) → among z (map name xs) ≡ false → among z (map name (reject out xs)) ≡ false
  reject-among z [] h = refl
  reject-among z (x ∷ xs) h =
      let (a, b) = neither (same_bytes (name x) z) (among z (map name xs)) h in
      let i = reject-among z xs b in
      pick_both (λ (l : List A). among z (map name l) ≡ false) (out x) (reject out xs) (x ∷ reject out xs) i (ap₂ ◌||◌ a i)

  pub reject-distinct : (xs : List A) → distinct (map name xs) ≡ true → distinct (map name (reject out xs)) ≡ true
  reject-distinct [] h = refl
  reject-distinct (x ∷ xs) h =
      let (a, b) = and_both (not (among (name x) (map name xs))) (distinct (map name xs)) h in
      let i = reject-distinct xs b in
      let j : among (name x) (map name (reject out xs)) ≡ false = reject-among (name x) xs (not-true (among (name x) (map name xs)) a) in
      pick_both (λ (l : List A). distinct (map name l) ≡ true) (out x) (reject out xs) (x ∷ reject out xs) i
      (both_and (not (among (name x) (map name (reject out xs)))) (distinct (map name (reject out xs))) (ap not j) i)

-- ---- no NUL in the parts of a list

onto-clean : (b : ℕ) (ls : List (List ℕ)) → not (eqb b 0) ≡ true → all clean ls ≡ true → all clean (onto b ls) ≡ true
onto-clean b [] h k = rw h
onto-clean b (l ∷ ls) h k =
    let (p, q) = and_both (clean l) (all clean ls) k in
    both_and (not (eqb b 0) && clean l) (all clean ls) (both_and (not (eqb b 0)) (clean l) h p) q

step-clean : (t : Bool) (b : ℕ) (ls : List (List ℕ)) → not (eqb b 0) ≡ true → all clean ls ≡ true → all clean (split_step t b ls) ≡ true
step-clean true b ls h k = k
step-clean false b ls h k = onto-clean b ls h k

pub split-clean : (c : ℕ) (x : List ℕ) → clean x ≡ true → all clean (split_at c x) ≡ true
unfolding split_at
split-clean c [] h = refl
split-clean c (b ∷ x) h = let (p, q) = and_both (not (eqb b 0)) (clean x) h in step-clean (eqb b c) b (split_at c x) p (split-clean c x q)

pub last_clean : (ls : List (List ℕ)) → all clean ls ≡ true → clean (last_of ls) ≡ true
last_clean [] h = refl
last_clean (x ∷ []) h = (and_both (clean x) true h).0
last_clean (x ∷ y ∷ ys) h = last_clean (y ∷ ys) (and_both (clean x) (all clean (y ∷ ys)) h).1

trim_step-clean : (t : Bool) (b : ℕ) (bs : List ℕ) → not (eqb b 0) ≡ true → clean bs ≡ true → clean (trim_step t b bs) ≡ true
trim_step-clean true b [] h k = refl
trim_step-clean true b (c ∷ cs) h k = both_and (not (eqb b 0)) (clean (c ∷ cs)) h k
trim_step-clean false b bs h k = both_and (not (eqb b 0)) (clean bs) h k

pub trim-clean : (x : List ℕ) → clean x ≡ true → clean (trim x) ≡ true
unfolding trim
trim-clean [] h = refl
trim-clean (b ∷ x) h = let (p, q) = and_both (not (eqb b 0)) (clean x) h in trim_step-clean (is_space b) b (trim x) p (trim-clean x q)

pub chomp-clean : (x : List ℕ) → clean x ≡ true → clean (chomp x) ≡ true
unfolding chomp
chomp-clean [] h = refl
chomp-clean (b ∷ x) h = let (p, q) = and_both (not (eqb b 0)) (clean x) h in trim_step-clean (eqb b 10) b (chomp x) p (chomp-clean x q)

trim_step-size : (t : Bool) (b : ℕ) (bs : List ℕ) → length (trim_step t b bs) ≤ suc (length bs)
trim_step-size true b [] = omega arith
trim_step-size true b (c ∷ cs) = omega arith
trim_step-size false b bs = omega arith

pub chomp-size : (x : List ℕ) → length (chomp x) ≤ length x
unfolding chomp
chomp-size [] = omega arith
chomp-size (b ∷ x) = omega (arith, trim_step-size (eqb b 10) b (chomp x), chomp-size x)

pub digits-clean : (x : List ℕ) → clean x ≡ true → clean (end_digits x) ≡ true
unfolding end_digits
digits-clean [] h = refl
digits-clean (b ∷ x) h =
    pick_both (λ (l : List ℕ). clean l ≡ true) (all is_digit (b ∷ x)) (b ∷ x) (end_digits x) h (digits-clean x (and_both (not (eqb b 0)) (clean x) h).1)

pub drop-clean : (n : ℕ) (bs : List ℕ) → clean bs ≡ true → clean (drop n bs) ≡ true
drop-clean n [] h = rw (drop-nil {A = ℕ} n)
drop-clean zero (b ∷ bs) h = h
drop-clean (suc n) (b ∷ bs) h = drop-clean n bs (and_both (not (eqb b 0)) (clean bs) h).1

-- a run and what follows it
abbrev pub CleanPart : Part (List ℕ) → Type 0
CleanPart p = (clean p.value ≡ true) × (clean p.rest ≡ true)

span_step-clean : (t : Bool) (b : ℕ) (bs : List ℕ) (r : Part (List ℕ)) → clean (b ∷ bs) ≡ true → CleanPart r → CleanPart (span_step t b bs r)
span_step-clean true b bs r h (k, l) = (both_and (not (eqb b 0)) (clean r.value) (and_both (not (eqb b 0)) (clean bs) h).0 k, l)
span_step-clean false b bs r h k = (refl, h)

pub span-clean : (p : ℕ → Bool) (bs : List ℕ) → clean bs ≡ true → CleanPart (span p bs)
unfolding span
span-clean p [] h = (refl, refl)
span-clean p (b ∷ bs) h = span_step-clean (p b) b bs (span p bs) h (span-clean p bs (and_both (not (eqb b 0)) (clean bs) h).1)

-- a list that does not hold NUL
pub holds-clean : (l : List ℕ) → holds 0 l ≡ false → clean l ≡ true
holds-clean [] h = refl
holds-clean (b ∷ l) h = let (p, q) = neither (eqb b 0) (holds 0 l) h in both_and (not (eqb b 0)) (clean l) (ap not p) (holds-clean l q)
