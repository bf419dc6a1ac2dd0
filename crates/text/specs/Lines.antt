-- Document 01, Reading a line, and document 02, Item 10: the lines of a text with their numbers. Lines get their numbers nowhere else.
-- Assumes nothing.
use Rattle.std.specs.Prelude.{ℕ, suc, ◌+◌, List, [], ◌∷◌, Bool, true, false, not, ◌&&◌, ◌||◌, eqb}
use Rattle.lists.specs.Lists.{pick, is_empty}
use Rattle.lists.specs.Bytes.{is_blank}
use Rattle.lists.specs.Runs.{split_step}
use Rattle.lists.specs.Checked.{Placed, line}

abbrev pub one_more : Bool → ℕ → ℕ
one_more true n = suc n
one_more false n = n

-- the number of newline bytes of a text
unfoldable pub newlines : List ℕ → ℕ
newlines [] = 0
newlines (b ∷ bs) = one_more (eqb b 10) (newlines bs)

-- ---- where a line ends

-- what the bytes of a line so far are: only blanks; a comment; anything else, which ends directly behind a backslash (slash), directly
-- behind a newline that joined (joined), or otherwise (plain)
pub data Stage : Type 0 where
  blank comment plain slash joined : Stage

abbrev pub is_slash : Stage → Bool
is_slash blank = false
is_slash comment = false
is_slash plain = false
is_slash slash = true
is_slash joined = false

abbrev pub ruled : ℕ → Stage
ruled b = pick (eqb b 92) slash plain

-- behind one more byte of the text: a comment is known by the first byte that is no blank, and a newline directly behind a backslash joins,
-- but not in a comment; behind any other newline a line begins
abbrev pub next : Stage → ℕ → Stage
next blank b = pick (eqb b 10) blank (pick (is_blank b) blank (pick (eqb b 35) comment (ruled b)))
next comment b = pick (eqb b 10) blank comment
next plain b = pick (eqb b 10) blank (ruled b)
next slash b = pick (eqb b 10) joined (ruled b)
next joined b = pick (eqb b 10) blank (ruled b)

unfoldable pub stage_of : Stage → List ℕ → Stage
stage_of s [] = s
stage_of s (b ∷ bs) = stage_of (next s b) bs

-- a byte ends its line: a newline that joins nothing, as one does where no line follows
abbrev pub ends : Stage → ℕ → List ℕ → Bool
ends s b rest = eqb b 10 && (is_empty rest || not (is_slash s))

-- a text cut at each newline that joins nothing: its lines as lent, joins included; the last may be empty
unfoldable pub lines_in : Stage → List ℕ → List (List ℕ)
lines_in s [] = [] ∷ []
lines_in s (b ∷ bs) = split_step (ends s b bs) b (lines_in (next s b) bs)

-- ---- their numbers

-- lines numbered from n on: each has the number of its first physical line
unfoldable pub numbered : ℕ → List (List ℕ) → List (Placed (List ℕ))
numbered n [] = []
numbered n (l ∷ ls) = line n l ∷ numbered (suc (newlines l + n)) ls

-- the lines of a text as lent, counted from 1
unfoldable pub lines : List ℕ → List (Placed (List ℕ))
lines text = numbered 1 (lines_in blank text)

-- ---- what a line holds

-- a line as lent whose last byte is a backslash, no comment, goes on where nothing follows
abbrev pub is_open : List ℕ → Bool
is_open l = is_slash (stage_of blank l)

abbrev pub starts_newline : List ℕ → Bool
starts_newline [] = false
starts_newline (b ∷ bs) = eqb b 10

abbrev pub without : Bool → ℕ → List ℕ → List ℕ
without true b bs = bs
without false b bs = b ∷ bs

-- a line's bytes joined: each newline goes, and the backslash directly before it
unfoldable pub unjoined : List ℕ → List ℕ
unjoined [] = []
unjoined (b ∷ bs) = without (eqb b 10 || (eqb b 92 && starts_newline bs)) b (unjoined bs)
