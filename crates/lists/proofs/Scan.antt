-- Laws for scans: parts between separators from the front, and what stands at the end of a list, looked for from its end.
-- Assumes nothing.
use Prim.Native.Nat.{ℕ, zero, suc, ◌+◌, ◌-◌, ◌≤◌, ◌<◌}
use mathlib.Core.Path.{◌≡◌, refl, sym, ap, ◌∙◌}
use mathlib.Core.Bool.{Bool, true, false, not}
use mathlib.Core.List.{List, [], ◌∷◌}
use Rattle.std.specs.Prelude.{Option, None, Some}
use native.Mathlib.Omega.{arith}
use native.Mathlib.Numerals.{sub-one}
use native.Mathlib.Nat.{le_of_suc-le-suc, not-suc-le-zero}
use borrow.Author.Tests.{eq-eqb, not-true}
use lib.Dec.{eqb}
use lib.ListN.{length, get_or, take, drop, length-append}
use Rattle.lists.specs.Lists.{is_some, all}
use Rattle.lists.specs.Bytes.{is_space, is_digit}
use Rattle.lists.specs.Runs.{span, span_step, onto, split_step, split_at, last_of, trim_step, trim, ends_in_space, end_digits}
use Rattle.lists.specs.Items.{before}
use Rattle.lists.proofs.Tests.{and_both, both_and, and-false}
use Rattle.lists.proofs.Rest.{rest_at}
use Rattle.lists.proofs.Runs.{span-whole}

-- ---- runs

pub span-length : (p : ℕ → Bool) (bs : List ℕ) → length (span p bs).value + length (span p bs).rest ≡ length bs
span-length p bs = sym (length-append (span p bs).value (span p bs).rest) ∙ ap length (span-whole p bs)

-- ---- parts between separators

-- the parts behind a separator, if there is one
abbrev pub parts_behind : ℕ → List ℕ → List (List ℕ)
parts_behind c [] = []
parts_behind c (b ∷ bs) = split_at c bs

-- the first part is the run up to the first separator
pub split-first : (c : ℕ) (bs : List ℕ)
    → split_at c bs ≡ (span (λ x. not (eqb x c)) bs).value ∷ parts_behind c (span (λ x. not (eqb x c)) bs).rest
unfolding split_at span
split-first c [] = refl
split-first c (b ∷ bs) = go (eqb b c) (split-first c bs)
  where
    go : (t : Bool) → split_at c bs ≡ (span (λ x. not (eqb x c)) bs).value ∷ parts_behind c (span (λ x. not (eqb x c)) bs).rest
        → split_step t b (split_at c bs)
        ≡ (span_step (not t) b bs (span (λ x. not (eqb x c)) bs)).value ∷ parts_behind c (span_step (not t) b bs (span (λ x. not (eqb x c)) bs)).rest
    go true h = refl
    go false h = ap (onto b) h

-- ---- a test that holds from a place to the end, followed towards the front

module _ (p : ℕ → Bool) where
  -- at place n - 1 it holds too
  pub all_back : (s : List ℕ) (n : ℕ) → 0 < n → n ≤ length s → all p (drop n s) ≡ true → p (get_or s (n - 1) 0) ≡ true → all p (drop (n - 1) s) ≡ true
  all_back s n z h k t =
      let e : n - 1 + 1 ≡ n = omega arith in
      rw (rest_at s (n - 1) (omega arith), e) (both_and (p (get_or s (n - 1) 0)) (all p (drop n s)) t k)

  pub all_fails : (s : List ℕ) (n : ℕ) → n < length s → p (get_or s n 0) ≡ false → all p s ≡ false
  all_fails [] n h t = absurd (not-suc-le-zero h)
  all_fails (b ∷ s) zero h t = rw t
  all_fails (b ∷ s) (suc n) h t = rw (all_fails s n (le_of_suc-le-suc h) t) (and-false (p b))

-- ---- whitespace at the end

pub trim-all : (s : List ℕ) → all is_space s ≡ true → trim s ≡ []
unfolding trim
trim-all [] h = refl
trim-all (b ∷ s) h =
    let (p, q) = and_both (is_space b) (all is_space s) h in
    rw (p, trim-all s q)

trim-behind : (s : List ℕ) (n : ℕ) → n < length s → is_space (get_or s n 0) ≡ false → all is_space (drop (suc n) s) ≡ true → take (suc n) s ≡ trim s
unfolding trim
trim-behind [] n h t k = absurd (not-suc-le-zero h)
trim-behind (b ∷ s) zero h t k = rw (t, trim-all s k)
trim-behind (b ∷ []) (suc n) h t k = absurd (omega arith)
trim-behind (b ∷ c ∷ s) (suc n) h t k = rw (← trim-behind (c ∷ s) n (le_of_suc-le-suc h) t k) (go (is_space b))
  where
    go : (u : Bool) → b ∷ c ∷ take n s ≡ trim_step u b (c ∷ take n s)
    go true = refl
    go false = refl

-- the byte before place n is no whitespace, and all behind is
pub trim_at : (s : List ℕ) (n : ℕ) → 0 < n → n ≤ length s → is_space (get_or s (n - 1) 0) ≡ false → all is_space (drop n s) ≡ true → take n s ≡ trim s
trim_at s zero z h t k = absurd (omega arith)
trim_at s (suc n) z h t k = trim-behind s n h (rw sub-one at t) k

pub ends-empty : (s : List ℕ) → length s ≡ 0 → ends_in_space s ≡ false
unfolding ends_in_space
ends-empty [] h = refl
ends-empty (b ∷ s) h = absurd (omega arith)

pub ends_at : (s : List ℕ) → 0 < length s → ends_in_space s ≡ is_space (get_or s (length s - 1) 0)
unfolding ends_in_space
ends_at [] h = absurd (omega arith)
ends_at (b ∷ []) h = refl
ends_at (b ∷ c ∷ s) h =
    let e : ends_in_space (c ∷ s) ≡ is_space (get_or (c ∷ s) (length s) 0) = rw sub-one at (ends_at (c ∷ s) (omega arith)) in
    rw sub-one e

-- ---- digits at the end

pub digits-all : (s : List ℕ) → all is_digit s ≡ true → end_digits s ≡ s
unfolding end_digits
digits-all [] h = refl
digits-all (b ∷ s) h = rw h

digits-behind : (s : List ℕ) (n : ℕ) → n < length s → is_digit (get_or s n 0) ≡ false → all is_digit (drop (suc n) s) ≡ true → drop (suc n) s ≡ end_digits s
unfolding end_digits
digits-behind [] n h t k = absurd (not-suc-le-zero h)
digits-behind (b ∷ s) zero h t k = rw (all_fails is_digit (b ∷ s) 0 h t) (sym (digits-all s k))
digits-behind (b ∷ s) (suc n) h t k = rw (all_fails is_digit (b ∷ s) (suc n) h t) (digits-behind s n (le_of_suc-le-suc h) t k)

pub digits_at : (s : List ℕ) (n : ℕ) → 0 < n → n ≤ length s → is_digit (get_or s (n - 1) 0) ≡ false → all is_digit (drop n s) ≡ true → drop n s ≡ end_digits s
digits_at s zero z h t k = absurd (omega arith)
digits_at s (suc n) z h t k = digits-behind s n h (rw sub-one at t) k

-- ---- the last part

-- at least two parts
abbrev Many : List (List ℕ) → Type 0
Many [] = ⊥
Many (x ∷ []) = ⊥
Many (x ∷ y ∷ ys) = Unit {0}

behind-many : (c : ℕ) (s : List ℕ) → Many ([] ∷ split_at c s)
behind-many c s = rw (split-first c s) tt

step-many : (t : Bool) (b : ℕ) (ls : List (List ℕ)) → Many ls → Many (split_step t b ls)
step-many false b [] m = elim m [ ]
step-many false b (x ∷ []) m = elim m [ ]
step-many true b [] m = elim m [ ]
step-many true b (x ∷ []) m = elim m [ ]
step-many true b (x ∷ y ∷ ys) m = tt
step-many false b (x ∷ y ∷ ys) m = tt

last_step : (t : Bool) (b : ℕ) (ls : List (List ℕ)) → Many ls → last_of (split_step t b ls) ≡ last_of ls
last_step false b [] m = elim m [ ]
last_step false b (x ∷ []) m = elim m [ ]
last_step true b [] m = elim m [ ]
last_step true b (x ∷ []) m = elim m [ ]
last_step true b (x ∷ y ∷ ys) m = refl
last_step false b (x ∷ y ∷ ys) m = refl

split-many : (c : ℕ) (s : List ℕ) (n : ℕ) → n < length s → get_or s n 0 ≡ c → Many (split_at c s)
unfolding split_at
split-many c [] n h e = absurd (not-suc-le-zero h)
split-many c (b ∷ s) zero h e = rw (eq-eqb b c e) (behind-many c s)
split-many c (b ∷ s) (suc n) h e = step-many (eqb b c) b (split_at c s) (split-many c s n (le_of_suc-le-suc h) e)

pub part-all : (c : ℕ) (s : List ℕ) → all (λ x. not (eqb x c)) s ≡ true → split_at c s ≡ s ∷ []
unfolding split_at
part-all c [] h = refl
part-all c (b ∷ s) h =
    let (p, q) = and_both (not (eqb b c)) (all (λ x. not (eqb x c)) s) h in
    rw (not-true (eqb b c) p, part-all c s q)

part-behind : (c : ℕ) (s : List ℕ) (n : ℕ) → n < length s → get_or s n 0 ≡ c → all (λ x. not (eqb x c)) (drop (suc n) s) ≡ true → drop (suc n) s ≡ last_of (split_at c s)
unfolding split_at
part-behind c [] n h e k = absurd (not-suc-le-zero h)
part-behind c (b ∷ s) zero h e k = rw (eq-eqb b c e, part-all c s k)
part-behind c (b ∷ s) (suc n) h e k =
    part-behind c s n (le_of_suc-le-suc h) e k ∙ sym (last_step (eqb b c) b (split_at c s) (split-many c s n (le_of_suc-le-suc h) e))

-- the byte before place n is a separator, and none stands behind
pub part_at : (c : ℕ) (s : List ℕ) (n : ℕ) → 0 < n → n ≤ length s → get_or s (n - 1) 0 ≡ c → all (λ x. not (eqb x c)) (drop n s) ≡ true → drop n s ≡ last_of (split_at c s)
part_at c s zero z h e k = absurd (omega arith)
part_at c s (suc n) z h e k = part-behind c s n h (rw sub-one at e) k

-- ---- items

pub some-before : {A : Type 0} (a : A) (o : Option (List A)) → is_some (before a o) ≡ is_some o
some-before a None = refl
some-before a (Some others) = refl
