-- The lines of joined texts, with their numbers.
-- Assumes nothing.
use Prim.Native.Nat.{ℕ, suc, ◌+◌, ◌≤◌, ◌<◌}
use mathlib.Core.Path.{◌≡◌, refl, sym, ◌∙◌, ap}
use mathlib.Core.Logic.{inl, inr}
use mathlib.Core.Bool.{Bool, true, false, not, ◌&&◌, ◌||◌, true≢false}
use mathlib.Core.List.{List, [], ◌∷◌, ◌++◌, map, append_assoc}
use native.Mathlib.Nat.{zero-add, suc-add, add-suc, add-zero}
use native.Mathlib.Omega.{arith}
use lib.Dec.{eqb}
use lib.ListN.{length}
use Rattle.lists.specs.Lists.{pick, is_empty, All}
use Rattle.lists.specs.Bytes.{holds}
use Rattle.lists.specs.Runs.{onto, split_step}
use Rattle.lists.specs.Checked.{Placed, line, line_of, moved}
use borrow.Author.Tests.{not-true}
use Rattle.lists.proofs.Tests.{and_both, or-true, neither}
use Rattle.lists.proofs.Lists.{All-map}
use Rattle.lists.proofs.Runs.{Cons, step-cons, step-append}
use Rattle.text.specs.Lines.{Stage, blank, comment, plain, slash, joined, is_slash, ends, next, stage_of, lines_in, numbered, lines, newlines, one_more}
use Rattle.text.specs.Joined.{EndsWhole}

-- ---- numbers

module _ {A : Type 0} where
  -- k lines further down
  abbrev pub shift : ℕ → List (Placed A) → List (Placed A)
  shift k ps = map (moved k) ps

  pub shift_zero : (ps : List (Placed A)) → shift 0 ps ≡ ps
  shift_zero [] = refl
  shift_zero (line n a ∷ ps) = rw (zero-add n, shift_zero ps)

  pub shift-shift : (n m : ℕ) (ps : List (Placed A)) → shift n (shift m ps) ≡ shift (n + m) ps
  shift-shift n m [] = refl
  shift-shift n m (line k a ∷ ps) = let e : n + (m + k) ≡ n + m + k = omega arith in rw (e, shift-shift n m ps)

  pub shift-above : (k : ℕ) (ps : List (Placed A)) → All (λ (p : Placed A). 1 ≤ line_of p) ps → All (λ (p : Placed A). k < line_of p) (shift k ps)
  shift-above k [] h = tt
  shift-above k (line n a ∷ ps) (h, hs) = (omega arith, shift-above k ps hs)

  pub shift_below : (k m : ℕ) (ps : List (Placed A)) → All (λ (p : Placed A). line_of p ≤ m) ps → All (λ (p : Placed A). line_of p ≤ k + m) (shift k ps)
  shift_below k m [] h = tt
  shift_below k m (line n a ∷ ps) (h, hs) = (omega arith, shift_below k m ps hs)

-- the physical lines of some lines as lent
unfoldable pub physical : List (List ℕ) → ℕ
physical [] = 0
physical (l ∷ ls) = suc (newlines l + physical ls)

pub numbered-append : (n : ℕ) (xs ys : List (List ℕ)) → numbered n (xs ++ ys) ≡ numbered n xs ++ numbered (physical xs + n) ys
unfolding numbered physical
numbered-append n [] ys = rw (zero-add n)
numbered-append n (x ∷ xs) ys =
    let e : physical xs + suc (newlines x + n) ≡ suc (newlines x + physical xs) + n = omega arith in
    rw (numbered-append (suc (newlines x + n)) xs ys, e)

pub numbered-shift : (k n : ℕ) (xs : List (List ℕ)) → numbered (k + n) xs ≡ shift k (numbered n xs)
unfolding numbered
numbered-shift k n [] = refl
numbered-shift k n (x ∷ xs) =
    let e : suc (newlines x + (k + n)) ≡ k + suc (newlines x + n) = omega arith in
    ap (λ (ps : List (Placed (List ℕ))). line (k + n) x ∷ ps) (rw e (numbered-shift k (suc (newlines x + n)) xs))

-- lines numbered from n on stand on n and the lines behind it
pub numbered-lines : (n : ℕ) (xs : List (List ℕ)) → All (λ (p : Placed (List ℕ)). (n ≤ line_of p) × (line_of p < n + physical xs)) (numbered n xs)
unfolding numbered physical
numbered-lines n [] = tt
numbered-lines n (x ∷ xs) = (omega arith, All-map _ _ (λ p h. omega arith) (numbered (suc (newlines x + n)) xs) (numbered-lines (suc (newlines x + n)) xs))

-- ---- newlines

one_more-add : (b : Bool) (m n : ℕ) → one_more b (m + n) ≡ one_more b m + n
one_more-add true m n = sym (suc-add m n)
one_more-add false m n = refl

pub newlines-append : (u v : List ℕ) → newlines (u ++ v) ≡ newlines u + newlines v
unfolding newlines
newlines-append [] v = sym (zero-add (newlines v))
newlines-append (x ∷ u) v = ap (one_more (eqb x 10)) (newlines-append u v) ∙ one_more-add (eqb x 10) (newlines u) (newlines v)

-- ---- where lines end

pub lines_cons : (s : Stage) (u : List ℕ) → Cons (lines_in s u)
unfolding lines_in
lines_cons s [] = record { first = []; rest = []; is = refl }
lines_cons s (b ∷ u) = step-cons (ends s b u) b (lines_in (next s b) u) (lines_cons (next s b) u)

pub ended-blank : (s : Stage) (b : ℕ) → eqb b 10 ≡ true → is_slash s ≡ false → next s b ≡ blank
ended-blank blank b e h = rw e
ended-blank comment b e h = rw e
ended-blank plain b e h = rw e
ended-blank slash b e h = let z : ◌≡◌ {A = ℕ} 0 1 = cc in absurd (omega arith)
ended-blank joined b e h = rw e

onto-physical : (b : ℕ) (ls : List (List ℕ)) → Cons ls → physical (onto b ls) ≡ one_more (eqb b 10) (physical ls)
unfolding physical newlines
onto-physical b ls c = rw c.is (at (eqb b 10))
  where
    at : (t : Bool) → suc (one_more t (newlines c.first) + physical c.rest) ≡ one_more t (suc (newlines c.first + physical c.rest))
    at true = omega arith
    at false = refl

step-physical : (t e : Bool) (b : ℕ) (ls : List (List ℕ)) → Cons ls → eqb b 10 ≡ e → (t ≡ true → e ≡ true) → physical (split_step t b ls) ≡ one_more e (physical ls)
unfolding physical newlines
step-physical true true b ls c q h = omega arith
step-physical true false b ls c q h = let k = h refl in let z : ◌≡◌ {A = ℕ} 0 1 = cc in absurd (omega arith)
step-physical false e b ls c q h = onto-physical b ls c ∙ ap (λ (x : Bool). one_more x (physical ls)) q

newline_more : (t : Bool) (m n : ℕ) → m ≡ suc n → one_more t m ≡ suc (one_more t n)
newline_more true m n h = ap suc h
newline_more false m n h = h

-- each newline ends a line or stands inside one
pub lines-physical : (s : Stage) (u : List ℕ) → physical (lines_in s u) ≡ suc (newlines u)
unfolding lines_in newlines physical
lines-physical s [] = refl
lines-physical s (b ∷ u) =
    step-physical (ends s b u) (eqb b 10) b (lines_in (next s b) u) (lines_cons (next s b) u) refl (λ e. (and_both (eqb b 10) (is_empty u || not (is_slash s)) e).0)
    ∙ newline_more (eqb b 10) (physical (lines_in (next s b) u)) (newlines u) (lines-physical (next s b) u)

-- the bytes of lines, and one more for each
unfoldable pub total : List (List ℕ) → ℕ
total [] = 0
total (l ∷ ls) = suc (length l + total ls)

step-total : (t : Bool) (b : ℕ) (ls : List (List ℕ)) → Cons ls → total (split_step t b ls) ≡ suc (total ls)
unfolding total
step-total true b ls c = omega arith
step-total false b ls c = rw c.is (omega arith)

pub lines-total : (s : Stage) (t : List ℕ) → total (lines_in s t) ≡ suc (length t)
unfolding lines_in total
lines-total s [] = refl
lines-total s (b ∷ t) = step-total (ends s b t) b (lines_in (next s b) t) (lines_cons (next s b) t) ∙ ap suc (lines-total (next s b) t)

pub stage_append : (s : Stage) (u v : List ℕ) → stage_of s (u ++ v) ≡ stage_of (stage_of s u) v
unfolding stage_of
stage_append s [] v = refl
stage_append s (b ∷ u) v = stage_append (next s b) u v

-- ---- a newline that joins nothing parts the lines before it from those behind it

-- the lines of bytes that a newline follows, which ends the last of them, begun in stage s
unfoldable pub lines_to : Stage → List ℕ → List (List ℕ)
lines_to s [] = [] ∷ []
lines_to s (b ∷ u) = split_step (eqb b 10 && not (is_slash s)) b (lines_to (next s b) u)

lines_to-cons : (s : Stage) (u : List ℕ) → Cons (lines_to s u)
unfolding lines_to
lines_to-cons s [] = record { first = []; rest = []; is = refl }
lines_to-cons s (b ∷ u) = step-cons (eqb b 10 && not (is_slash s)) b (lines_to (next s b) u) (lines_to-cons (next s b) u)

pub not_last : (u v : List ℕ) → is_empty (u ++ (10 ∷ v)) ≡ false
not_last [] v = refl
not_last (b ∷ u) v = refl

pub lines_seam : (s : Stage) (u v : List ℕ) → is_slash (stage_of s u) ≡ false → lines_in s (u ++ (10 ∷ v)) ≡ lines_to s u ++ lines_in blank v
unfolding lines_in lines_to stage_of
lines_seam s [] v h = rw (h, or-true (is_empty v)) (ap (λ (x : Stage). [] ∷ lines_in x v) (ended-blank s 10 refl h))
lines_seam s (b ∷ u) v h =
    rw (not_last u v)
    (ap (split_step (eqb b 10 && not (is_slash s)) b) (lines_seam (next s b) u v h)
    ∙ step-append (eqb b 10 && not (is_slash s)) b (lines_to (next s b) u) (lines_in blank v) (lines_to-cons (next s b) u))

-- bytes without a newline are one line, whatever the stage
pub flat_line : (s : Stage) (l : List ℕ) → holds 10 l ≡ false → lines_to s l ≡ l ∷ []
unfolding lines_to
flat_line s [] h = refl
flat_line s (b ∷ l) h = let (p, q) = neither (eqb b 10) (holds 10 l) h in rw (p, flat_line (next s b) l q)

pub flat_newlines : (l : List ℕ) → holds 10 l ≡ false → newlines l ≡ 0
unfolding newlines
flat_newlines [] h = refl
flat_newlines (b ∷ l) h = let (p, q) = neither (eqb b 10) (holds 10 l) h in rw (p, flat_newlines l q)

pub lines_to-physical : (s : Stage) (u : List ℕ) → physical (lines_to s u) ≡ suc (newlines u)
unfolding lines_to newlines physical
lines_to-physical s [] = refl
lines_to-physical s (b ∷ u) =
    step-physical (eqb b 10 && not (is_slash s)) (eqb b 10) b (lines_to (next s b) u) (lines_to-cons (next s b) u) refl (λ e. (and_both (eqb b 10) (not (is_slash s)) e).0)
    ∙ newline_more (eqb b 10) (physical (lines_to (next s b) u)) (newlines u) (lines_to-physical (next s b) u)

-- ---- where a text ends in a backslash that is no comment's, or in that and a newline, a line is open

-- of lines the first of which begins in stage s
unfoldable pub has_open : Stage → List (List ℕ) → Bool
has_open s [] = false
has_open s (l ∷ ls) = is_slash (stage_of s l) || has_open blank ls

step_open : (s : Stage) (t : Bool) (b : ℕ) (ls : List (List ℕ)) → Cons ls → (t ≡ true → has_open (next s b) ls ≡ true → has_open blank ls ≡ true)
    → has_open (next s b) ls ≡ true → has_open s (split_step t b ls) ≡ true
unfolding has_open stage_of
step_open s true b ls c f h = rw (f refl h) (or-true (is_slash s))
step_open s false b [] c f h = absurd (omega (arith, ap length c.is))
step_open s false b (l ∷ ls) c f h = h

cut_open : (s : Stage) (b : ℕ) (u : List ℕ) (ls : List (List ℕ)) → (is_empty u ≡ false) → ends s b u ≡ true → has_open (next s b) ls ≡ true → has_open blank ls ≡ true
cut_open s b u ls n e h =
    let (p, q) = and_both (eqb b 10) (is_empty u || not (is_slash s)) e in
    let f : not (is_slash s) ≡ true = rw n at q in
    rw (← (ended-blank s b p (not-true (is_slash s) f))) h

-- no newline leaves a backslash
never : (x : Stage) (c : ℕ) → eqb c 10 ≡ true → is_slash (next x c) ≡ true → ⊥
never blank c q k = true≢false (sym (rw q at k))
never comment c q k = true≢false (sym (rw q at k))
never plain c q k = true≢false (sym (rw q at k))
never slash c q k = true≢false (sym (rw q at k))
never joined c q k = true≢false (sym (rw q at k))

pub open_end : (s : Stage) (u : List ℕ) → is_slash (stage_of s u) ≡ true → has_open s (lines_in s u) ≡ true
unfolding lines_in has_open stage_of
open_end s [] h = rw h
open_end s (b ∷ []) h = step_open s (ends s b []) b ([] ∷ []) (lines_cons blank []) (λ e k. last e) (rw h)
  where
    last : ends s b [] ≡ true → has_open blank ([] ∷ []) ≡ true
    last e = let q = (and_both (eqb b 10) true e).0 in absurd (never s b q h)
open_end s (b ∷ c ∷ u) h =
    step_open s (ends s b (c ∷ u)) b (lines_in (next s b) (c ∷ u)) (lines_cons (next s b) (c ∷ u)) (λ e k. cut_open s b (c ∷ u) (lines_in (next s b) (c ∷ u)) refl e k)
    (open_end (next s b) (c ∷ u) h)

pub open_newline : (s : Stage) (u : List ℕ) → is_slash (stage_of s u) ≡ true → has_open s (lines_in s (u ++ (10 ∷ []))) ≡ true
unfolding lines_in has_open stage_of
open_newline s [] h = rw h
open_newline s (b ∷ u) h =
    step_open s (ends s b (u ++ (10 ∷ []))) b (lines_in (next s b) (u ++ (10 ∷ []))) (lines_cons (next s b) (u ++ (10 ∷ [])))
    (λ e k. cut_open s b (u ++ (10 ∷ [])) (lines_in (next s b) (u ++ (10 ∷ []))) (not_last u []) e k)
    (open_newline (next s b) u h)

-- ---- a text that others may follow

-- its lines are whole lines and then an empty one
pub record Whole (t : List ℕ) : Type 0 where
  pub front : List (List ℕ)
  pub alone : lines_in blank t ≡ front ++ ([] ∷ [])
  pub before : (v : List ℕ) → lines_in blank (t ++ v) ≡ front ++ lines_in blank v
  pub size : physical front ≡ newlines t

pub whole : (t : List ℕ) → EndsWhole t → Whole t
unfolding lines_in newlines physical
whole t (inl e) = record {
  front = [];
  alone = rw e;
  before = λ v. rw e;
  size = rw e;
}
whole t (inr (u, e, j)) = record {
  front = lines_to blank u;
  alone = rw e (lines_seam blank u [] j);
  before = λ v. rw (e, append_assoc u (10 ∷ []) v) (lines_seam blank u v j);
  size = rw (e, newlines-append u (10 ∷ [])) (lines_to-physical blank u ∙ omega arith);
}

module _ (t : List ℕ) (h : EndsWhole t) where
  pub lines-alone : lines t ≡ numbered 1 (whole t h).front ++ (line (newlines t + 1) [] ∷ [])
  unfolding lines numbered
  lines-alone = rw ((whole t h).alone, numbered-append 1 (whole t h).front ([] ∷ []), (whole t h).size)

  -- the lines of a text that follows are as many further down as the first has newlines
  pub lines-before : (v : List ℕ) → lines (t ++ v) ≡ numbered 1 (whole t h).front ++ shift (newlines t) (lines v)
  unfolding lines
  lines-before v =
      rw ((whole t h).before v, numbered-append 1 (whole t h).front (lines_in blank v), (whole t h).size, numbered-shift (newlines t) 1 (lines_in blank v))
