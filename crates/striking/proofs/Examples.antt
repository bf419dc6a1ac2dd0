-- Worked examples of the striker, as one computed claim.
-- Assumes nothing.
use Prim.Native.Nat.{ℕ}
use Prim.Native.String.{String}
use mathlib.Core.Path.{◌≡◌, refl}
use mathlib.Core.Bool.{Bool, true, false, ◌&&◌}
use mathlib.Core.List.{List, [], ◌∷◌, ◌++◌}
use lib.Dec.{eqb}
use Rattle.lists.specs.Bytes as bytes_of
use Rattle.lists.specs.Bytes.{same_bytes}
use Rattle.lists.specs.Runs as runs
use Rattle.lists.specs.Items as items
use Rattle.lists.specs.Quoted.{bytes}
use Rattle.lists.specs.Checked.{Checked, refused, ok, Placed, line}
use Rattle.lists.specs.Refusal.{Refusal, number}
use Rattle.pattern.specs.Pattern as pattern
use Rattle.template.specs.Template as template
use Rattle.rules.specs.Key as key
use Rattle.rules.specs.Pair as pair
use Rattle.rules.specs.Setting as setting
use Rattle.rules.specs.Coded as coded
use Rattle.rules.specs.Reading as reading
use Rattle.rules.specs.Reading.{reader}
use Rattle.rules.proofs.Examples.{Bit, t, rep, many, built}
use Rattle.text.specs.Lines as lines
use Rattle.text.specs.Reading as text
use Rattle.text.specs.Rules as rules
use Rattle.striking.specs.Striking.{past_most, strikes_of, all_left, together, unanswered, judged, strikes, struck, Made, strike_checked}

pub data Case : Type 0 where
  -- the text becomes this, which striking leaves as it is, with these lines struck, each for a fault
  strikes_so : String → String → List (ℕ × ℕ) → Case
  -- only the strikes, of a long text
  strikes_only : List Bit → List (ℕ × ℕ) → Case
  -- refused beside a target and a list of such sizes, with a number, at line 0
  refuses : List Bit → ℕ → ℕ → ℕ → Case

abbrev pub same_strikes : List (Placed Refusal) → List (ℕ × ℕ) → Bool
same_strikes [] [] = true
same_strikes [] (y ∷ ys) = false
same_strikes (x ∷ xs) [] = false
same_strikes (line n f ∷ xs) ((m, k) ∷ ys) = eqb n m && (eqb (number f) k && same_strikes xs ys)

abbrev pub is_struck : Checked (Placed Refusal) Made → List ℕ → List (ℕ × ℕ) → Bool
is_struck (refused f) w ss = false
is_struck (ok m) w ss = same_bytes m.text w && same_strikes m.strikes ss

abbrev pub has_strikes : Checked (Placed Refusal) Made → List (ℕ × ℕ) → Bool
has_strikes (refused f) ss = false
has_strikes (ok m) ss = same_strikes m.strikes ss

abbrev pub is_refused : Checked (Placed Refusal) Made → ℕ → Bool
is_refused (refused (line m f)) n = eqb (number f) n && eqb m 0
is_refused (ok m) n = false

unfoldable pub right : Case → Bool
right (strikes_so s w ss) = is_struck (strike_checked reader (bytes s) 32768 32768) (bytes w) ss && is_struck (strike_checked reader (bytes w) 32768 32768) (bytes w) []
right (strikes_only s ss) = has_strikes (strike_checked reader (built s) 32768 32768) ss
right (refuses s room places n) = is_refused (strike_checked reader (built s) room places) n

-- the cases that do not come out as written
unfoldable pub wrong : List Case → List Case
wrong [] = []
wrong (c ∷ cs) = elim (right c) [ true ↦ wrong cs | false ↦ c ∷ wrong cs ]

-- lines with faults of reading, of several physical lines too; a comment with NUL or of 1,025 bytes is one
pub faulty : List Case
faulty =
    strikes_so "" "" ([])
    ∷ strikes_so "x" "" ((1, 11) ∷ [])
    ∷ strikes_so "#\0\n\nTAG=\"a\"\\\n\nx" "\n\nTAG=\"a\"\\\n\n" ((1, 10) ∷ (5, 11) ∷ [])
    ∷ strikes_so "GOTO=\\\n\"a\"\nTAG=\\\n\\\nx\nLABEL=\\\n\"a\"" "GOTO=\\\n\"a\"\n\n\n\nLABEL=\\\n\"a\"" ((3, 14) ∷ [])
    ∷ strikes_so "PROGRAM==\"%c{1}\"\nRESULT=\"a\"\nPROGRAM+=\"x\",RESULT==\"a\"\n" "\n\nPROGRAM+=\"x\",RESULT==\"a\"\n" ((1, 15) ∷ (2, 13) ∷ [])
    ∷ strikes_only (t "#" ∷ rep 1024 "x" ∷ []) ((1, 10) ∷ [])
    ∷ strikes_only (rep 1025 "x" ∷ []) ((1, 10) ∷ [])
    ∷ []

-- an open join is one line, with 20, up to the end of the text; a comment opens none
pub open_joins : List Case
open_joins =
    strikes_so "TAG+=\"a\"\\\n" "\n" ((1, 20) ∷ [])
    ∷ strikes_so "x\n# c\nTAG+=\"a\"\\\nb\n\\\n\\" "\n# c\n\n\n\n" ((1, 11) ∷ (3, 17) ∷ (5, 20) ∷ [])
    ∷ strikes_so "\\\n# c\\\n x\nx\n\\\n" "\\\n# c\\\n x\n\n\n" ((4, 11) ∷ (5, 20) ∷ [])
    ∷ strikes_so "# c\\" "# c\\" ([])
    ∷ []

-- a struck GOTO takes its LABEL with it, and a line's own LABEL does not answer its GOTO
pub jumps : List Case
jumps =
    strikes_so "GOTO=\"a\"\nGOTO=\"b\"\nLABEL=\"b\"\nLABEL=\"a\",GOTO=\"c\"\n" "\nGOTO=\"b\"\nLABEL=\"b\"\n\n" ((1, 19) ∷ (4, 19) ∷ [])
    ∷ strikes_so "GOTO=\"a\"\nLABEL=\"a\"x\n" "\n\n" ((1, 19) ∷ (2, 17) ∷ [])
    ∷ strikes_so "LABEL=\"a\",GOTO=\"a\"\nGOTO=\"a\"" "\n" ((1, 19) ∷ (2, 19) ∷ [])
    ∷ []

-- rules past the 512th: faulty lines are not counted, a GOTO among them is 18, and one that is struck makes no room
pub past : List Case
past =
    strikes_only (t "bad\n" ∷ rep 511 "TAG+=\"t\"\n" ∷ t "GOTO=\"l\"\nLABEL=\"l\"\n" ∷ []) ((1, 11) ∷ (513, 19) ∷ (514, 18) ∷ [])
    ∷ strikes_only (t "bad\n" ∷ rep 511 "TAG+=\"t\"\n" ∷ t "GOTO=\"l\"\nLABEL=\"l\"\nTAG+=\"t\"x\n" ∷ []) ((1, 11) ∷ (513, 19) ∷ (514, 18) ∷ (515, 17) ∷ [])
    ∷ strikes_only (t "GOTO=\"l\"\n" ∷ rep 511 "TAG+=\"t\"\n" ∷ t "GOTO=\"l\"\n" ∷ []) ((1, 19) ∷ (513, 18) ∷ [])
    ∷ []

-- 1 for either size, then 2
pub refused_calls : List Case
refused_calls =
    refuses (rep 32769 "\n" ∷ []) 32768 32768 2
    ∷ refuses (rep 32769 "\n" ∷ []) 32768 32767 1
    ∷ refuses [] 32767 32768 1
    ∷ []

pub shown : wrong (faulty ++ (open_joins ++ (jumps ++ (past ++ refused_calls)))) ≡ []
unfolding wrong right faulty open_joins jumps past refused_calls bytes built many same_bytes bytes_of.starts runs.span runs.split_at items.items items.in_braces
    pattern.members pattern.body_of pattern.elements pattern.well_formed template.names template.letters template.name_in template.pieces template.well_formed
    key.rows key.row_in key.row_of pair.value_of setting.digits_from setting.integer_of setting.setting_of
    reading.read_key reading.is_type reading.read_argument reading.read_op reading.quoted reading.unescape reading.read_plain
    coded.escapes coded.escape_in coded.coded reading.read_coded reading.read_value reading.sound reading.read_pair reading.read_pairs reading.read_line
    lines.newlines lines.stage_of lines.lines_in lines.numbered lines.lines lines.unjoined text.read_lent text.collect text.goes_to text.settle text.read_text
    rules.rules_in past_most strikes_of all_left together unanswered judged strikes struck strike_checked
shown = refl
