-- The lines of a text from a place on, as a loop over its bytes meets them.
-- Assumes nothing.
use Prim.Native.Nat.{ℕ, suc, ◌+◌, ◌-◌, ◌≤◌, ◌<◌}
use mathlib.Core.Path.{◌≡◌, refl, sym, ◌∙◌, ap}
use mathlib.Core.Bool.{Bool, true, false, not, ◌&&◌, ◌||◌}
use mathlib.Core.List.{List, [], ◌∷◌, ◌++◌}
use native.Mathlib.Omega.{arith}
use native.Mathlib.Nat.{eq-or-lt_of_le}
use mathlib.Core.Logic.{◌⊎◌, inl, inr, ⊎_elim}
use lib.Dec.{eqb, leb}
use lib.ListN.{length, take, drop, drop_of_length-le, length-drop}
use lib.Seq.{drop-drop}
use borrow.Author.Tests.{le-leb, lt-leb, not-true}
use Rattle.lists.specs.Lists.{pick, is_empty, all}
use Rattle.lists.specs.Bytes.{is_blank}
use Rattle.lists.specs.Runs.{onto, split_step}
use Rattle.lists.specs.Checked.{Placed, line}
use Rattle.lists.proofs.Rest.{rest_at}
use Rattle.lists.proofs.Tests.{and_both, or-true}
use Rattle.text.specs.Lines.{Stage, blank, comment, plain, slash, joined, is_slash, ends, ruled, next, stage_of, lines_in, numbered, lines, newlines}
use Rattle.text.proofs.Lines.{ended-blank}

-- any byte but a newline
abbrev pub is_in_line : ℕ → Bool
is_in_line b = not (eqb b 10)

-- the size of the first line of a text whose bytes so far left it in stage s
unfoldable pub line_size : Stage → List ℕ → ℕ
line_size s [] = 0
line_size s (b ∷ bs) = pick (ends s b bs) 0 (suc (line_size (next s b) bs))

-- the lines behind a line's end
abbrev lines_behind : List ℕ → List (List ℕ)
lines_behind [] = []
lines_behind (b ∷ bs) = lines_in blank bs

-- behind a line's end a line begins, or nothing follows
pub begin_blank : (s : Stage) (b : ℕ) (bs : List ℕ) → ends s b bs ≡ true → lines_in (next s b) bs ≡ lines_in blank bs
unfolding lines_in
begin_blank s b [] e = refl
begin_blank s b (c ∷ bs) e =
    let (p, q) = and_both (eqb b 10) (not (is_slash s)) e in
    ap (λ (x : Stage). lines_in x (c ∷ bs)) (ended-blank s b p (not-true (is_slash s) q))

line_first : (s : Stage) (bs : List ℕ) → lines_in s bs ≡ take (line_size s bs) bs ∷ lines_behind (drop (line_size s bs) bs)
unfolding lines_in line_size
line_first s [] = refl
line_first s (b ∷ bs) = at (ends s b bs) refl (line_first (next s b) bs)
  where
    at : (t : Bool) → ends s b bs ≡ t → lines_in (next s b) bs ≡ take (line_size (next s b) bs) bs ∷ lines_behind (drop (line_size (next s b) bs) bs)
        → split_step t b (lines_in (next s b) bs) ≡ take (pick t 0 (suc (line_size (next s b) bs))) (b ∷ bs) ∷ lines_behind (drop (pick t 0 (suc (line_size (next s b) bs))) (b ∷ bs))
    at true e h = ap (λ (ls : List (List ℕ)). [] ∷ ls) (begin_blank s b bs e)
    at false e h = ap (onto b) h

pub size-le : (s : Stage) (bs : List ℕ) → line_size s bs ≤ length bs
unfolding line_size
size-le s [] = omega arith
size-le s (b ∷ bs) = at (ends s b bs) (size-le (next s b) bs)
  where
    at : (t : Bool) → line_size (next s b) bs ≤ length bs → pick t 0 (suc (line_size (next s b) bs)) ≤ suc (length bs)
    at true h = omega arith
    at false h = omega arith

-- the lines from a place on; none past the text's end
abbrev pub lines_from : List ℕ → ℕ → List (List ℕ)
lines_from t at = pick (leb at (length t)) (lines_in blank (drop at t)) []

-- and numbered from n
unfoldable pub lines_at : List ℕ → ℕ → ℕ → List (Placed (List ℕ))
lines_at t at n = numbered n (lines_from t at)

pub lines_start : (t : List ℕ) → lines_at t 0 1 ≡ lines t
unfolding lines_at lines
lines_start t = rw (le-leb 0 (length t) (omega arith))

pub lines_end : (t : List ℕ) (at n : ℕ) → length t < at → lines_at t at n ≡ []
unfolding lines_at numbered
lines_end t at n h = rw (lt-leb at (length t) h)

-- what is behind the end of a line: nothing, or the lines behind its newline
behind : (t : List ℕ) (e : ℕ) → e ≤ length t → lines_behind (drop e t) ≡ pick (leb (e + 1) (length t)) (lines_in blank (drop (e + 1) t)) []
behind t e h = ⊎_elim last inside (eq-or-lt_of_le h)
  where
    last : e ≡ length t → lines_behind (drop e t) ≡ pick (leb (e + 1) (length t)) (lines_in blank (drop (e + 1) t)) []
    last q = rw (drop_of_length-le t {i = e} (omega arith), lt-leb (e + 1) (length t) (omega arith))

    inside : e < length t → lines_behind (drop e t) ≡ pick (leb (e + 1) (length t)) (lines_in blank (drop (e + 1) t)) []
    inside q = rw (rest_at t e q, le-leb (e + 1) (length t) (omega arith))

-- a line as lent, up to the newline that ends it or the text's end, and the lines behind it
pub from_step : (t : List ℕ) (at e : ℕ) → at ≤ length t → e ≡ at + line_size blank (drop at t) → lines_from t at ≡ take (e - at) (drop at t) ∷ lines_from t (e + 1)
from_step t at e h q =
    let u : e ≤ length t = omega (arith, size-le blank (drop at t), length-drop at t) in
    let v : e - at ≡ line_size blank (drop at t) = omega arith in
    let w : drop (line_size blank (drop at t)) (drop at t) ≡ drop e t = drop-drop (line_size blank (drop at t)) at t ∙ ap (λ (k : ℕ). drop k t) (sym q) in
    rw (le-leb at (length t) h, line_first blank (drop at t), w, behind t e u, v)

pub lines_step : (t : List ℕ) (at e n : ℕ) → at ≤ length t → e ≡ at + line_size blank (drop at t)
    → lines_at t at n ≡ line n (take (e - at) (drop at t)) ∷ lines_at t (e + 1) (suc (newlines (take (e - at) (drop at t)) + n))
unfolding lines_at numbered
lines_step t at e n h q = ap (numbered n) (from_step t at e h q)

-- ---- a line by its physical lines: a run without newlines, and then

-- the run is passed over
pub size-run : (s : Stage) (w r : List ℕ) → all is_in_line w ≡ true → line_size s (w ++ r) ≡ length w + line_size (stage_of s w) r
unfolding line_size stage_of
size-run s [] r h = omega arith
size-run s (b ∷ w) r h = at (eqb b 10) refl (size-run (next s b) w r (and_both (is_in_line b) (all is_in_line w) h).1)
  where
    at : (t : Bool) → eqb b 10 ≡ t → line_size (next s b) (w ++ r) ≡ length w + line_size (stage_of (next s b) w) r
        → pick (t && (is_empty (w ++ r) || not (is_slash s))) 0 (suc (line_size (next s b) (w ++ r))) ≡ suc (length w) + line_size (stage_of (next s b) w) r
    at true e g = let f = (and_both (is_in_line b) (all is_in_line w) h).0 in let z : ◌≡◌ {A = ℕ} 0 1 = cc in absurd (omega arith)
    at false e g = omega arith

-- a newline that ends the line
pub size-end : (s : Stage) (r : List ℕ) → is_slash s ≡ false → line_size s (10 ∷ r) ≡ 0
unfolding line_size
size-end s r h = rw (h, or-true (is_empty r))

-- the last newline of a text
pub size_last : (s : Stage) → line_size s (10 ∷ []) ≡ 0
unfolding line_size
size_last s = refl

-- a newline that joins
pub size-join : (s : Stage) (c : ℕ) (r : List ℕ) → is_slash s ≡ true → line_size s (10 ∷ c ∷ r) ≡ suc (line_size joined (c ∷ r))
unfolding line_size
size-join blank c r h = let z : ◌≡◌ {A = ℕ} 0 1 = cc in absurd (omega arith)
size-join comment c r h = let z : ◌≡◌ {A = ℕ} 0 1 = cc in absurd (omega arith)
size-join plain c r h = let z : ◌≡◌ {A = ℕ} 0 1 = cc in absurd (omega arith)
size-join slash c r h = refl
size-join joined c r h = let z : ◌≡◌ {A = ℕ} 0 1 = cc in absurd (omega arith)

-- ---- the stage behind a run without newlines

-- a comment stays one
pub stage_comment : (w : List ℕ) → all is_in_line w ≡ true → stage_of comment w ≡ comment
unfolding stage_of
stage_comment [] h = refl
stage_comment (b ∷ w) h = at (eqb b 10) refl (stage_comment w (and_both (is_in_line b) (all is_in_line w) h).1)
  where
    at : (t : Bool) → eqb b 10 ≡ t → stage_of comment w ≡ comment → stage_of (pick t blank comment) w ≡ comment
    at true e g = let f = (and_both (is_in_line b) (all is_in_line w) h).0 in let z : ◌≡◌ {A = ℕ} 0 1 = cc in absurd (omega arith)
    at false e g = g

-- blanks leave it open what the line is
pub stage_blank : (w : List ℕ) → all is_blank w ≡ true → stage_of blank w ≡ blank
unfolding stage_of
stage_blank [] h = refl
stage_blank (b ∷ w) h =
    let (p, q) = and_both (is_blank b) (all is_blank w) h in
    at (eqb b 10) (is_blank b) p (stage_blank w q)
  where
    at : (t u : Bool) → u ≡ true → stage_of blank w ≡ blank → stage_of (pick t blank (pick u blank (pick (eqb b 35) comment (ruled b)))) w ≡ blank
    at true u e g = g
    at false true e g = g
    at false false e g = let z : ◌≡◌ {A = ℕ} 0 1 = cc in absurd (omega arith)

-- anything else: the last byte decides
abbrev pub Ruled : Stage → Type 0
Ruled blank = ⊥
Ruled comment = ⊥
Ruled plain = Unit {0}
Ruled slash = Unit {0}
Ruled joined = Unit {0}

ruled-ruled : (b : ℕ) → Ruled (ruled b)
ruled-ruled b = at (eqb b 92)
  where
    at : (t : Bool) → Ruled (pick t slash plain)
    at true = tt
    at false = tt

ruled-next : (s : Stage) (b : ℕ) → Ruled s → eqb b 10 ≡ false → next s b ≡ ruled b
ruled-next blank b r h = absurd r
ruled-next comment b r h = absurd r
ruled-next plain b r h = rw h
ruled-next slash b r h = rw h
ruled-next joined b r h = rw h

in_line : (b : ℕ) → is_in_line b ≡ true → eqb b 10 ≡ false
in_line b h = at (eqb b 10) h
  where
    at : (t : Bool) → not t ≡ true → t ≡ false
    at true e = let z : ◌≡◌ {A = ℕ} 0 1 = cc in absurd (omega arith)
    at false e = refl

pub stage_ruled : (s : Stage) (w : List ℕ) (b : ℕ) → Ruled s → all is_in_line w ≡ true → is_in_line b ≡ true → stage_of s (w ++ (b ∷ [])) ≡ ruled b
unfolding stage_of
stage_ruled s [] b r h k = ruled-next s b r (in_line b k)
stage_ruled s (c ∷ w) b r h k =
    let (p, q) = and_both (is_in_line c) (all is_in_line w) h in
    ap (λ (x : Stage). stage_of x (w ++ (b ∷ []))) (ruled-next s c r (in_line c p)) ∙ stage_ruled (ruled c) w b (ruled-ruled c) q k
