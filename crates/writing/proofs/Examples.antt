-- Worked examples of the writer, as one computed claim.
-- Assumes nothing.
use Prim.Native.Nat.{ℕ}
use Prim.Native.String.{String}
use mathlib.Core.Path.{◌≡◌, refl}
use mathlib.Core.Bool.{Bool, true, false, ◌&&◌}
use mathlib.Core.List.{List, [], ◌∷◌}
use lib.Dec.{eqb}
use Rattle.lists.specs.Bytes as bytes_of
use Rattle.lists.specs.Bytes.{same_bytes}
use Rattle.lists.specs.Runs as runs
use Rattle.lists.specs.Items as items
use Rattle.lists.specs.Quoted.{bytes}
use Rattle.lists.specs.Checked.{Checked, refused, ok, Placed, line}
use Rattle.lists.specs.Refusal.{Refusal, number}
use Rattle.pattern.specs.Pattern as pattern
use Rattle.template.specs.Template as template
use Rattle.rules.specs.Key as key
use Rattle.rules.specs.Pair as pair
use Rattle.rules.specs.Setting as setting
use Rattle.rules.specs.Coded as coded
use Rattle.rules.specs.Reading as reading
use Rattle.rules.proofs.Examples.{Bit, t, rep, many, built}
use Rattle.text.specs.Lines as lines
use Rattle.text.specs.Reading as text
use Rattle.writing.specs.Writing.{name_in, op_text, ends_in_slash, needs_code, value_text, pair_text, line_text, written, write_checked}

pub data Case : Type 0 where
  -- the text is written as this
  writes : String → String → Case
  -- as it is
  writes_same : List Bit → Case
  -- the text is refused beside a target of this room, with a number, at a line
  refuses : String → ℕ → ℕ → ℕ → Case
  refuses_of : List Bit → ℕ → ℕ → Case

abbrev pub is_written : Checked (Placed Refusal) (List ℕ) → List ℕ → Bool
is_written (refused (line m f)) w = false
is_written (ok v) w = same_bytes v w

abbrev pub is_refused : Checked (Placed Refusal) (List ℕ) → ℕ → ℕ → Bool
is_refused (refused (line m f)) n l = eqb (number f) n && eqb m l
is_refused (ok v) n l = false

unfoldable pub right : Case → Bool
right (writes s w) = is_written (write_checked (bytes s) 32768) (bytes w)
right (writes_same s) = is_written (write_checked (built s) 32768) (built s)
right (refuses s room n l) = is_refused (write_checked (bytes s) room) n l
right (refuses_of s n l) = is_refused (write_checked (built s) 32768) n l

-- the cases that do not come out as written
unfoldable pub wrong : List Case → List Case
wrong [] = []
wrong (c ∷ cs) = elim (right c) [ true ↦ wrong cs | false ↦ c ∷ wrong cs ]

-- 256 letters
abbrev long-line : String
long-line = "ENV{a}=\"bbbbbbbbbbbbbbbbbbbbbbbbbbbbbbbbbbbbbbbbbbbbbbbbbbbbbbbbbbbbbbbbbbbbbbbbbbbbbbbbbbbbbbbbbbbbbbbbbbbbbbbbbbbbbbbbbbbbbbbbbbbbbbbbbbbbbbbbbbbbbbbbbbbbbbbbbbbbbbbbbbbbbbbbbbbbbbbbbbbbbbbbbbbbbbbbbbbbbbbbbbbbbbbbbbbbbbbbbbbbbbbbbbbbbbbbbbbbbbbbbbbbbb\"\n"

pub examples : List Case
examples =
    writes "" ""
    ∷ writes "# c\n\n \t\n" ""
    ∷ writes "  KERNEL  ==\t\"a\" ,\tENV{x y} = \"\\\"q\\\" \" \n#c\nRUN=\"a\",RUN{program}+=\"b\" , RUN{builtin}:=\"c\"" "KERNEL==\"a\",ENV{x y}=\"\\\"q\\\" \"\nRUN=\"a\",RUN{program}+=\"b\",RUN{builtin}:=\"c\"\n"
    ∷ writes "ENV{a}=e\"a\\nb\\\\c\\\"\\t\\x01'\"" "ENV{a}=e\"a\\nb\\\\c\\\"\t\u{1}'\"\n"
    ∷ writes "ENV{a}=e\"a\\\\\"" "ENV{a}=e\"a\\\\\"\n"
    ∷ writes "ENV{a}=e\"a\\\\b\\\"\\\\\\\"\"" "ENV{a}=\"a\\b\\\"\\\\\"\"\n"
    ∷ writes "OPTIONS+=\"link_priority=-0\"" "OPTIONS+=\"link_priority=-0\"\n"
    ∷ writes "TAG+=\\\n\"a\\\nb\"\n" "TAG+=\"ab\"\n"
    ∷ writes "ENV{a}=e\"\\t\\x01\\r\"" "ENV{a}=\"\t\u{1}\r\"\n"
    ∷ writes "ENV{a}=\"\\\\\"x\"" "ENV{a}=\"\\\\\"x\"\n"
    ∷ writes "ENV{a}=e\"\"" "ENV{a}=\"\"\n"
    ∷ writes "ENV{a}=e\"\\n\"" "ENV{a}=e\"\\n\"\n"
    ∷ writes "SYMLINK==\"a\", SYMLINK!=\"b\", SYMLINK=\"c\", SYMLINK+=\"d\", SYMLINK-=\"e\", SYMLINK:=\"f\"" "SYMLINK==\"a\",SYMLINK!=\"b\",SYMLINK=\"c\",SYMLINK+=\"d\",SYMLINK-=\"e\",SYMLINK:=\"f\"\n"
    ∷ writes "\n\\\n # c\n\\\n GOTO=\"a\"\n\n LABEL=\"a\" , ATTRS{a{b}!=\"x\"" "GOTO=\"a\"\nLABEL=\"a\",ATTRS{a{b}!=\"x\"\n"
    ∷ writes "PROGRAM:=\"/bin/x %c $result\" , RESULT!=\"a*|b\", OPTIONS += \"nowatch\"" "PROGRAM:=\"/bin/x %c $result\",RESULT!=\"a*|b\",OPTIONS+=\"nowatch\"\n"
    ∷ refuses "nokey" 32768 11 1
    ∷ refuses "KERNEL==\"a\"\nTAG=b" 32768 14 2
    ∷ refuses "GOTO=\"x\"" 32768 19 1
    ∷ refuses "TAG=\"a\"\\" 32768 20 1
    ∷ refuses "nokey" 32767 1 0
    ∷ refuses "" 0 1 0
    ∷ refuses_of (rep 127 long-line ∷ t "ENV{a}=\"" ∷ rep 247 "b" ∷ t "\"" ∷ []) 2 0
    ∷ writes_same (rep 128 long-line ∷ [])
    ∷ refuses_of (rep 32769 "\n" ∷ []) 2 0
    ∷ refuses_of (rep 127 long-line ∷ t "ENV{a}=\"" ∷ rep 245 "b" ∷ t "x\"x" ∷ []) 17 128
    ∷ []

pub shown : wrong examples ≡ []
unfolding wrong right examples bytes built many same_bytes bytes_of.starts runs.span runs.split_at items.items items.in_braces
    pattern.members pattern.body_of pattern.elements pattern.well_formed template.names template.letters template.name_in template.pieces template.well_formed
    key.rows key.row_in key.row_of pair.value_of setting.digits_from setting.integer_of setting.setting_of
    reading.read_key reading.is_type reading.read_argument reading.read_op reading.quoted reading.unescape reading.read_plain
    coded.escapes coded.escape_in coded.coded reading.read_coded reading.read_value reading.sound reading.read_pair reading.read_pairs reading.read_line
    lines.newlines lines.stage_of lines.lines_in lines.numbered lines.lines lines.unjoined text.read_lent text.collect text.goes_to text.settle text.read_text
    name_in op_text ends_in_slash needs_code value_text pair_text line_text written write_checked
shown = refl
