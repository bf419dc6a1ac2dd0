-- Worked examples of reading, as one computed claim: each refusal 2, 10 to 20 with its neighbours, and the order of the checks.
-- Assumes nothing.
use Prim.Native.Nat.{ℕ, zero, suc}
use Prim.Native.String.{String}
use mathlib.Core.Path.{◌≡◌, refl}
use mathlib.Core.Bool.{Bool, true, false, not, ◌&&◌}
use mathlib.Core.List.{List, [], ◌∷◌, ◌++◌, map}
use Rattle.std.specs.Prelude.{Option, None, Some}
use lib.Dec.{eqb}
use lib.ListN.{length, replicate, take, drop}
use lib.IntN.{ℤ, pos, negsuc}
use Rattle.lists.specs.Lists.{pick}
use Rattle.lists.specs.Bytes.{same_bytes, holds, starts}
use Rattle.lists.specs.Runs.{span, split_at, Part}
use Rattle.lists.specs.Items.{items, in_braces}
use Rattle.lists.specs.Checked.{Checked, refused, ok, Placed, line, line_of}
use Rattle.lists.specs.Refusal.{Refusal, number}
use Rattle.lists.specs.Quoted.{bytes}
use Rattle.pattern.specs.Pattern as pattern
use Rattle.template.specs.Template as template
use Rattle.rules.specs.Key.{Key, RUN, same_key, Op, equal, unequal, assign, add, remove, final, Row, rows, row_in, row_of, allows}
use Rattle.rules.specs.Pair.{Pair, Rule, value_of, label_of, goto_of}
use Rattle.rules.specs.Setting.{Setting, escape_none, escape_replace, priority, digits_from, integer_of, setting_of, watched, unwatched}
use Rattle.rules.specs.Coded.{escapes, escape_in, coded}
use Rattle.rules.specs.Reading.{read_key, is_type, read_argument, read_op, quoted, unescape, read_plain, read_coded, read_value, sound, read_pair, read_pairs, read_line, reader}
use Rattle.text.specs.Lines.{newlines, stage_of, lines_in, numbered, lines, unjoined}
use Rattle.text.specs.Reading as text
use Rattle.text.specs.Reading.{collect, goes_to, settle, read_lent}

-- ---- a read rule as text, for comparing: NAME{argument}op<value>, each pair and each rule with an end mark

unfoldable pub name_of : List Row → Key → List ℕ
name_of [] k = []
name_of (r ∷ rs) k = pick (same_key r.key k) r.name (name_of rs k)

abbrev pub op_text : Op → List ℕ
unfolding bytes
op_text equal = bytes "=="
op_text unequal = bytes "!="
op_text assign = bytes "="
op_text add = bytes "+="
op_text remove = bytes "-="
op_text final = bytes ":="

-- an argument in braces, and the type program where RUN has none
unfoldable pub argument_text : Key → List ℕ → List ℕ
unfolding bytes
argument_text k [] = pick (same_key k RUN) (bytes "{program}") []
argument_text k (b ∷ bs) = 123 ∷ ((b ∷ bs) ++ (125 ∷ []))

unfoldable pub pair_text : Pair → List ℕ
pair_text p =
    name_of rows p.key ++ (argument_text p.key p.argument
    ++ (op_text p.op ++ (60 ∷ (p.value ++ (62 ∷ [])))))

unfoldable pub rule_text : Rule → List ℕ
rule_text [] = 59 ∷ []
rule_text (p ∷ ps) = pair_text p ++ rule_text ps

unfoldable pub rules_text : List (Placed Rule) → List ℕ
rules_text [] = []
rules_text (line n r ∷ ps) = rule_text r ++ rules_text ps

abbrev read_text : List ℕ → Checked (Placed Refusal) (List (Placed Rule))
read_text t = text.read_text reader t

-- ---- cases

-- a text of parts, some of them repeated
pub data Bit : Type 0 where
  t : String → Bit
  rep : ℕ → String → Bit

unfoldable pub many : ℕ → List ℕ → List ℕ
many zero bs = []
many (suc n) bs = bs ++ many n bs

unfoldable pub built : List Bit → List ℕ
built [] = []
built (t s ∷ bs) = bytes s ++ built bs
built (rep n s ∷ bs) = many n (bytes s) ++ built bs

pub data Case : Type 0 where
  -- the value in marks, unescaped; and one that is a fault
  valued : String → String → ℕ → Case
  unvalued : String → Case
  -- the text is refused with a number, at a line
  unread : String → ℕ → ℕ → Case
  refused_of : List Bit → ℕ → ℕ → Case
  -- the text has its rules at these lines, and they read so
  reads : String → List ℕ → String → Case
  -- the text is accepted, with so many rules
  reads_of : List Bit → ℕ → Case
  -- the value of OPTIONS sets this priority
  sets : String → ℤ → Case

abbrev pub lines_of : List (Placed Rule) → List ℕ
lines_of ps = map line_of ps

abbrev pub is_refused : Checked (Placed Refusal) (List (Placed Rule)) → ℕ → ℕ → Bool
is_refused (refused (line m f)) n l = eqb (number f) n && eqb m l
is_refused (ok rs) n l = false

abbrev pub is_read : Checked (Placed Refusal) (List (Placed Rule)) → List ℕ → List ℕ → Bool
is_read (refused (line m f)) ls w = false
is_read (ok rs) ls w = same_bytes (lines_of rs) ls && same_bytes (rules_text rs) w

abbrev pub has_rules : Checked (Placed Refusal) (List (Placed Rule)) → ℕ → Bool
has_rules (refused (line m f)) n = false
has_rules (ok rs) n = eqb (length rs) n

abbrev sameℤ : ℤ → ℤ → Bool
sameℤ (pos a) (pos b) = eqb a b
sameℤ (pos a) (negsuc b) = false
sameℤ (negsuc a) (pos b) = false
sameℤ (negsuc a) (negsuc b) = eqb a b

abbrev is_priority : Option Setting → ℤ → Bool
is_priority None z = false
is_priority (Some escape_none) z = false
is_priority (Some escape_replace) z = false
is_priority (Some watched) z = false
is_priority (Some unwatched) z = false
is_priority (Some (priority y)) z = sameℤ y z

abbrev is_value_of : Checked Refusal (Part (List ℕ)) → List ℕ → ℕ → Bool
is_value_of (refused f) v n = false
is_value_of (ok p) v n = same_bytes p.value v && eqb (length v) n

abbrev is_no_value : Checked Refusal (Part (List ℕ)) → Bool
is_no_value (refused f) = true
is_no_value (ok p) = false

unfoldable pub right : Case → Bool
right (valued s v n) = is_value_of (read_value (bytes s)) (bytes v) n
right (unvalued s) = is_no_value (read_value (bytes s))
right (unread s n l) = is_refused (read_text (bytes s)) n l
right (refused_of bs n l) = is_refused (read_text (built bs)) n l
right (reads s ls w) = is_read (read_text (bytes s)) ls (bytes w)
right (reads_of bs n) = has_rules (read_text (built bs)) n
right (sets s z) = is_priority (setting_of (bytes s)) z

-- the cases that do not come out as written
unfoldable pub wrong : List Case → List Case
wrong [] = []
wrong (c ∷ cs) = elim (right c) [ true ↦ wrong cs | false ↦ c ∷ wrong cs ]

pub examples : List Case
examples =
    -- M6, and other values
    valued "\"a\\\"b\"" "a\"b" 3 ∷ valued "\"\\t\\n\"" "\\t\\n" 4 ∷ valued "\"\"" "" 0 ∷ valued "\"\\\\\"x\"" "\\\"x" 3 ∷ valued "\"a\\b\"" "a\\b" 3 ∷ valued "\"\\\\a\"" "\\\\a" 3
    ∷ valued "\"\\\"\"" "\"" 1 ∷ valued "\"a\" \"b\"" "a" 1 ∷ unvalued "\"\\\\\"" ∷ unvalued "\"\\\"" ∷ unvalued "\"a" ∷ unvalued "a\"" ∷ unvalued ""
    ∷ unvalued "\""
    -- document 02, Item 1: values behind an e
    ∷ valued "e\"string\\n\"" "string\n" 7 ∷ valued "e\"\\a\\b\\f\\n\\r\\t\\v\\\\\\\"\\'\"" "\u{7}\u{8}\u{c}\n\r\t\u{b}\\\"'" 10 ∷ valued "e\"\"" "" 0
    ∷ valued "e\"\\\\\"" "\\" 1 ∷ valued "e\"\\x411\"" "A1" 2 ∷ valued "e\"\\x01\\x7f\\x4A\\x4a\"" "\u{1}\u{7f}JJ" 4 ∷ valued "e\"\t\u{1}'\" \"" "\t\u{1}'" 3 ∷ valued "e\"a\\\\\" x\"" "a\\" 2
    ∷ unvalued "e\"\\x00\"" ∷ unvalued "e\"\\q\"" ∷ unvalued "e\"\\0\"" ∷ unvalued "e\"\\101\"" ∷ unvalued "e\"\\x4\"" ∷ unvalued "e\"\\xg1\"" ∷ unvalued "e\"\\x1g\"" ∷ unvalued "e\"\\"
    ∷ unvalued "e\"a\\\"" ∷ unvalued "e \"a\"" ∷ unvalued "E\"a\"" ∷ unvalued "e\"a" ∷ unvalued "e\"\\N\"" ∷ unvalued "e\"\\x\"" ∷ unvalued "e\"\\X41\"" ∷ unvalued "e\"\\ \"" ∷ unvalued "e" ∷ unvalued "e'a'"
    ∷ unvalued "ee\"a\"" ∷ unvalued "e\"\\?\"" ∷ unvalued "e\"\\e\""
    ∷ reads_of (t "ENV{a}=e\"" ∷ rep 256 "\\n" ∷ t "\"" ∷ []) 1 ∷ refused_of (t "ENV{a}=e\"" ∷ rep 257 "\\n" ∷ t "\"" ∷ []) 14 1
    ∷ reads_of (t "ENV{a}=e\"" ∷ rep 200 "\\x41" ∷ rep 56 "a" ∷ t "\"" ∷ []) 1 ∷ refused_of (t "ENV{a}=e\"" ∷ rep 200 "\\x41" ∷ rep 57 "a" ∷ t "\"" ∷ []) 14 1
    ∷ unread "KERNEL==e\"[\\q\"" 14 1 ∷ unread "KERNEL==e\"\\x5b\"" 15 1 ∷ unread "RUN=e\"\\x24x\"" 15 1 ∷ unread "LABEL=e\"\"" 15 1 ∷ unread "KERNEL==e\"a\\x00\"" 14 1 ∷ unread "KERNEL==e\"a\0\"" 10 1
    ∷ unread "TAG=e\"a\"e" 17 1 ∷ unread "TAG=e\"a\\\"\"\"" 17 1 ∷ unread "GOTO=\"\\x61\"\nLABEL=e\"\\x61\"" 19 1
    ∷ reads "KERNEL==e\"a\\x7cb\"" (1 ∷ []) "KERNEL==<a|b>;" ∷ reads "GOTO=\"a\"\nLABEL=e\"\\x61\"" (1 ∷ 2 ∷ []) "GOTO=<a>;LABEL=<a>;" ∷ reads "ENV{e\"a\"} = \t e\"a\\nb\" , TAG=\"e\"" (1 ∷ []) "ENV{e\"a\"}=<a\nb>TAG=<e>;"
    ∷ reads "OPTIONS=e\"link\\x5fpriority=7\"" (1 ∷ []) "OPTIONS=<link_priority=7>;" ∷ reads "TAG=e\"a\\n\"\nTAG=\"b\"" (1 ∷ 2 ∷ []) "TAG=<a\n>;TAG=<b>;"
    -- M8, and 19
    ∷ unread "LABEL=\"x\", GOTO=\"x\"" 19 1 ∷ unread "GOTO=\"x\"" 19 1 ∷ unread "LABEL=\"x\"\nGOTO=\"x\"" 19 2 ∷ unread "\n# c\nGOTO=\"x\"\nLABEL=\"X\"\nGOTO=\"y\"" 19 3
    ∷ unread "GOTO=\"a\"\nGOTO=\"b\"\nLABEL=\"a\"\nLABEL=\"c\"" 19 2 ∷ unread "GOTO=\"x\"\nLABEL=\"x \"" 19 1 ∷ unread "GOTO=\"x*\"\nLABEL=\"xy\"" 19 1 ∷ unread "KERNEL==\"a\", GOTO=\"x\", KERNEL!=\"a\"\nLABEL=\"y\"" 19 1
    ∷ reads "GOTO=\"x\"\nLABEL=\"x\"" (1 ∷ 2 ∷ []) "GOTO=<x>;LABEL=<x>;" ∷ reads "LABEL=\"x\",GOTO=\"x\"\n\nLABEL=\"x\"\n" (1 ∷ 3 ∷ []) "LABEL=<x>GOTO=<x>;LABEL=<x>;"
    ∷ reads "GOTO=\"a\\\"b\"\nLABEL=\"a\\\"b\"\n" (1 ∷ 2 ∷ []) "GOTO=<a\"b>;LABEL=<a\"b>;" ∷ unread "GOTO=\"x\"\nFOO" 11 2
    -- lines and blanks
    ∷ reads "" ([]) "" ∷ reads "\n" ([]) "" ∷ reads " \t\n#x\n \t# KERNEL\n" ([]) "" ∷ reads "KERNEL==\"a\"" (1 ∷ []) "KERNEL==<a>;" ∷ reads "\t KERNEL \t== \t\"a\" \t,\t ACTION!=\"b\" " (1 ∷ []) "KERNEL==<a>ACTION!=<b>;"
    ∷ reads "\n\nKERNEL==\"a\"\n#\n \nTAG=\"b\"\n" (3 ∷ 6 ∷ []) "KERNEL==<a>;TAG=<b>;"
    ∷ reads "KERNEL==\"#a\"" (1 ∷ []) "KERNEL==<#a>;"
    ∷ reads "KERNEL==\"ttyUSB[0-9]*\", ATTRS{serial}==\"RC-0417\", SYMLINK+=\"rope/trip%n\", MODE=\"0660\", GROUP=\"dialout\"" (1 ∷ []) "KERNEL==<ttyUSB[0-9]*>ATTRS{serial}==<RC-0417>SYMLINK+=<rope/trip%n>MODE=<0660>GROUP=<dialout>;"
    -- 2
    ∷ refused_of (t "FOO\n" ∷ rep 32765 "\n" ∷ []) 2 0 ∷ refused_of (t "FOO\n" ∷ rep 32764 "\n" ∷ []) 11 1
    -- 10
    ∷ refused_of (t "#" ∷ rep 1024 "a" ∷ []) 10 1 ∷ reads_of (t "#" ∷ rep 1023 "a" ∷ []) 0 ∷ refused_of (rep 1025 " " ∷ []) 10 1 ∷ reads_of (rep 1024 " " ∷ []) 0
    ∷ unread "#\0" 10 1 ∷ unread "\0" 10 1 ∷ unread "KERNEL==\"a\0\"" 10 1 ∷ unread "FOO\0" 10 1 ∷ unread "\n\n #\0\nFOO" 10 3 ∷ unread "FOO\n\0" 11 1 ∷ refused_of (t "FOO" ∷ rep 1022 " " ∷ []) 10 1
    ∷ refused_of (t "FOO" ∷ rep 1021 " " ∷ []) 11 1 ∷ reads_of (t "KERNEL==\"a\"" ∷ rep 1013 " " ∷ t "\n" ∷ []) 1 ∷ refused_of (t "KERNEL==\"a\"" ∷ rep 1014 " " ∷ t "\n" ∷ []) 10 1
    -- 11
    ∷ unread "FOO" 11 1 ∷ unread "FOO=\"a\"" 11 1 ∷ unread "=\"a\"" 11 1 ∷ unread "\"a\"" 11 1 ∷ unread "kernel==\"a\"" 11 1 ∷ unread "KERNELSX==\"a\"" 11 1
    ∷ unread "KERNE==\"a\"" 11 1 ∷ unread "\r" 11 1 ∷ unread "KERNEL==\"a\"," 11 1 ∷ unread "KERNEL==\"a\", " 11 1 ∷ unread "KERNEL==\"a\", # c" 11 1 ∷ unread "KERNEL==\"a\",,ACTION==\"b\"" 11 1
    ∷ unread ",KERNEL==\"a\"" 11 1 ∷ unread "{a}==\"b\"" 11 1 ∷ unread "KERNEL==\"a\", foo==\"b\"" 11 1 ∷ unread "NAME=\"x\"" 11 1
    ∷ unread "IMPORT{file}=\"x\"" 11 1 ∷ unread "TEST==\"x\"" 11 1 ∷ unread "TAGS==\"x\"" 11 1 ∷ unread "A" 11 1 ∷ unread "_" 11 1 ∷ unread "FOO{}=" 11 1 ∷ unread "OPTION=\"string_escape=none\"" 11 1
    ∷ unread "ENVX{a}=\"b\"" 11 1 ∷ unread "RUNS=\"a\"" 11 1 ∷ unread "ACTIONKERNEL==\"a\"" 11 1 ∷ unread "\u{b}KERNEL==\"a\"" 11 1
    -- 12
    ∷ unread "ATTR==\"b\"" 12 1 ∷ unread "ATTR" 12 1 ∷ unread "ATTR {a}==\"b\"" 12 1 ∷ unread "ATTR{}==\"b\"" 12 1 ∷ unread "ATTR{a==\"b\"" 12 1 ∷ unread "ATTR{" 12 1
    ∷ unread "ENV=\"a\"" 12 1 ∷ unread "ENV{}=\"a\"" 12 1 ∷ unread "ATTRS==\"a\"" 12 1 ∷ unread "KERNEL{a}==\"b\"" 12 1 ∷ unread "KERNEL{" 12 1 ∷ unread "KERNEL{}==\"a\"" 12 1
    ∷ unread "LABEL{a}=\"b\"" 12 1 ∷ unread "RUN{x}=\"a\"" 12 1 ∷ unread "RUN{}=\"a\"" 12 1 ∷ unread "RUN{ program}=\"a\"" 12 1 ∷ unread "RUN{program =\"a\"" 12 1
    ∷ unread "RUN{Program}=\"a\"" 12 1 ∷ unread "RUN{builtins}=\"a\"" 12 1 ∷ unread "SYMLINK{a}=\"b\"" 12 1 ∷ unread "TAG{a}+=\"b\"" 12 1 ∷ unread "OPTIONS{a}=\"b\"" 12 1
    ∷ unread "ATTR{}" 12 1 ∷ unread "ENV{" 12 1 ∷ unread "GOTO{x}=\"a\"" 12 1 ∷ unread "ATTR{}=" 12 1 ∷ unread "KERNEL{a}+=" 12 1 ∷ refused_of (t "ENV{" ∷ rep 65 "a" ∷ t "}=\"b\"" ∷ []) 12 1
    ∷ reads_of (t "ENV{" ∷ rep 64 "a" ∷ t "}=\"b\"" ∷ []) 1 ∷ reads "ENV{ {\"= }=\"b\"" (1 ∷ []) "ENV{ {\"= }=<b>;" ∷ reads "ATTR{a{b}!=\"c\"" (1 ∷ []) "ATTR{a{b}!=<c>;"
    ∷ reads "ENV{a\"b\\c}=\"x\"" (1 ∷ []) "ENV{a\"b\\c}=<x>;"
    -- 13
    ∷ unread "KERNEL" 13 1 ∷ unread "KERNEL " 13 1 ∷ unread "KERNEL \"a\"" 13 1 ∷ unread "KERNEL=\"a\"" 13 1 ∷ unread "KERNEL+=\"a\"" 13 1 ∷ unread "KERNEL-=\"a\"" 13 1
    ∷ unread "KERNEL:=\"a\"" 13 1 ∷ unread "KERNELx==\"a\"" 13 1 ∷ unread "KERNEL_S==\"a\"" 13 1 ∷ unread "KERNEL {a}==\"b\"" 13 1 ∷ unread "RUN {program}=\"a\"" 13 1
    ∷ unread "RUN==\"a\"" 13 1 ∷ unread "RUN!=\"a\"" 13 1 ∷ unread "RUN-=\"a\"" 13 1 ∷ unread "ENV{a}+=\"b\"" 13 1 ∷ unread "ENV{a}-=\"b\"" 13 1 ∷ unread "ENV{a}:=\"b\"" 13 1
    ∷ unread "ENV{a}" 13 1 ∷ unread "ATTR{a}=\"b\"" 13 1 ∷ unread "ATTR{a==\"b\", ENV{c}=\"d\"" 13 1 ∷ unread "OWNER==\"a\"" 13 1 ∷ unread "OWNER+=\"a\"" 13 1
    ∷ unread "GROUP-=\"a\"" 13 1 ∷ unread "MODE!=\"a\"" 13 1 ∷ unread "MODE+=\"a\"" 13 1 ∷ unread "LABEL==\"a\"" 13 1 ∷ unread "LABEL:=\"a\"" 13 1 ∷ unread "GOTO+=\"a\"" 13 1
    ∷ unread "OPTIONS:=\"a\"" 13 1 ∷ unread "OPTIONS-=\"a\"" 13 1 ∷ unread "OPTIONS==\"a\"" 13 1 ∷ unread "SYMLINK:\"a\"" 13 1 ∷ unread "SYMLINK! =\"a\"" 13 1
    ∷ unread "TAG!\"a\"" 13 1 ∷ unread "TAG+\"a\"" 13 1 ∷ unread "TAG-\"a\"" 13 1 ∷ unread "TAG:" 13 1 ∷ unread "KERNEL= =\"a\"" 13 1 ∷ unread "KERNEL!" 13 1
    ∷ unread "KERNEL=" 13 1 ∷ unread "KERNEL,ACTION==\"a\"" 13 1 ∷ unread "KERNEL#" 13 1
    -- 14
    ∷ unread "TAG=" 14 1 ∷ unread "TAG=a" 14 1 ∷ unread "TAG= =\"\"" 14 1 ∷ unread "TAG===\"a\"" 14 1 ∷ unread "ENV{a}= =\"b\"" 14 1 ∷ unread "TAG=\"a" 14 1
    ∷ unread "TAG=\"a\\\"" 14 1 ∷ unread "TAG=\"\\\\\"" 14 1 ∷ unread "KERNEL==E\"a\"" 14 1 ∷ unread "KERNEL== a" 14 1 ∷ unread "KERNEL==," 14 1 ∷ unread "KERNEL!='a'" 14 1
    ∷ unread "TAG=\"" 14 1 ∷ unread "RUN+=" 14 1 ∷ unread "TAG:=:=\"a\"" 14 1 ∷ unread "TAG=!\"a\"" 14 1 ∷ unread "TAG=+=\"a\"" 14 1 ∷ unread "KERNEL==\"[" 14 1
    ∷ unread "TAG==\"a\nTAG=\"b\"" 14 1 ∷ refused_of (t "ENV{a}=\"" ∷ rep 257 "b" ∷ t "\"" ∷ []) 14 1 ∷ reads_of (t "ENV{a}=\"" ∷ rep 256 "b" ∷ t "\"" ∷ []) 1
    ∷ reads_of (t "ENV{a}=\"" ∷ rep 256 "\\\"" ∷ t "\"" ∷ []) 1 ∷ refused_of (t "ENV{a}=\"" ∷ rep 257 "\\\"" ∷ t "\"" ∷ []) 14 1 ∷ refused_of (t "KERNEL==\"" ∷ rep 257 "[" ∷ t "\"" ∷ []) 14 1
    ∷ refused_of (t "KERNEL==\"" ∷ rep 256 "[" ∷ t "\"" ∷ []) 15 1 ∷ refused_of (t "ENV{a}=\"" ∷ rep 300 "b" ∷ []) 14 1
    -- 15
    ∷ unread "KERNEL==\"[\"" 15 1 ∷ unread "KERNEL==\"[a|b]\"" 15 1 ∷ unread "KERNEL!=\"[c-a]\"" 15 1 ∷ unread "ENV{a}==\"[\"" 15 1 ∷ unread "SYMLINK==\"[\"" 15 1
    ∷ unread "TAG!=\"[\"" 15 1 ∷ unread "SYMLINK=\"$\"" 15 1 ∷ unread "SYMLINK-=\"$\"" 15 1 ∷ unread "SYMLINK+=\"%\"" 15 1 ∷ unread "SYMLINK:=\"%q\"" 15 1
    ∷ unread "OWNER=\"$x\"" 15 1 ∷ unread "GROUP=\"%\"" 15 1 ∷ unread "MODE:=\"$\"" 15 1 ∷ unread "RUN+=\"$attr{}\"" 15 1 ∷ unread "RUN{builtin}=\"%s\"" 15 1
    ∷ unread "OPTIONS=\"\"" 15 1 ∷ unread "OPTIONS=\"x\"" 15 1 ∷ unread "OPTIONS=\"link_priority=\"" 15 1 ∷ unread "OPTIONS=\"link_priority=-\"" 15 1 ∷ unread "OPTIONS=\"link_priority=+1\"" 15 1
    ∷ unread "OPTIONS=\"link_priority=1 \"" 15 1 ∷ unread "OPTIONS=\" link_priority=1\"" 15 1 ∷ unread "OPTIONS=\"link_priority=12345678901\"" 15 1 ∷ unread "OPTIONS=\"link_priority=-12345678901\"" 15 1
    ∷ unread "OPTIONS=\"link_priority=00000000001\"" 15 1 ∷ unread "OPTIONS=\"link_priority=2147483648\"" 15 1 ∷ unread "OPTIONS=\"link_priority=-2147483649\"" 15 1
    ∷ unread "OPTIONS=\"link_priority=9999999999\"" 15 1 ∷ unread "OPTIONS=\"link_priority=--1\"" 15 1 ∷ unread "OPTIONS=\"link_priority=1a\"" 15 1 ∷ unread "OPTIONS=\"string_escape\"" 15 1
    ∷ unread "OPTIONS=\"string_escape=nones\"" 15 1 ∷ unread "OPTIONS=\"string_escape=none,link_priority=1\"" 15 1 ∷ unread "OPTIONS+=\"string_escape=Replace\"" 15 1
    ∷ unread "LABEL=\"\"" 15 1 ∷ unread "GOTO=\"\"" 15 1 ∷ unread "OPTIONS=\"link_priority=:\"" 15 1 ∷ unread "OPTIONS=\"link_priority=/\"" 15 1 ∷ unread "KERNEL==\"[\" x" 15 1
    ∷ unread "LABEL=\"\"x" 15 1 ∷ refused_of (t "TAG=\"" ∷ rep 65 "a" ∷ t "\"" ∷ []) 15 1 ∷ refused_of (t "TAG-=\"" ∷ rep 65 "a" ∷ t "\"" ∷ []) 15 1 ∷ refused_of (t "TAG:=\"" ∷ rep 65 "a" ∷ t "\"" ∷ []) 15 1
    ∷ reads_of (t "TAG+=\"" ∷ rep 64 "a" ∷ t "\"" ∷ []) 1 ∷ reads_of (t "TAG==\"" ∷ rep 256 "a" ∷ t "\"" ∷ []) 1 ∷ reads "ENV{a}=\"[$%\"" (1 ∷ []) "ENV{a}=<[$%>;"
    ∷ reads "SYMLINK==\"$\"" (1 ∷ []) "SYMLINK==<$>;" ∷ reads "KERNEL==\"$%\"" (1 ∷ []) "KERNEL==<$%>;" ∷ reads "OWNER=\"\"" (1 ∷ []) "OWNER=<>;" ∷ reads "MODE=\"888\"" (1 ∷ []) "MODE=<888>;"
    ∷ reads "MODE=\"00660\"" (1 ∷ []) "MODE=<00660>;" ∷ reads "SYMLINK=\"[\"" (1 ∷ []) "SYMLINK=<[>;" ∷ reads "TAG=\"[$%\"" (1 ∷ []) "TAG=<[$%>;" ∷ reads "TAG=\"\"" (1 ∷ []) "TAG=<>;"
    ∷ reads "LABEL=\"[$%\"" (1 ∷ []) "LABEL=<[$%>;" ∷ reads "OPTIONS+=\"string_escape=replace\"" (1 ∷ []) "OPTIONS+=<string_escape=replace>;" ∷ reads "OPTIONS=\"string_escape=none\"" (1 ∷ []) "OPTIONS=<string_escape=none>;"
    ∷ reads "RUN=\"a\", RUN{program}+=\"b\", RUN{builtin}:=\"c\"" (1 ∷ []) "RUN{program}=<a>RUN{program}+=<b>RUN{builtin}:=<c>;"
    ∷ reads "SYMLINK==\"a\", SYMLINK!=\"b\", SYMLINK=\"c\", SYMLINK+=\"d\", SYMLINK-=\"e\", SYMLINK:=\"f\"" (1 ∷ []) "SYMLINK==<a>SYMLINK!=<b>SYMLINK=<c>SYMLINK+=<d>SYMLINK-=<e>SYMLINK:=<f>;"
    ∷ reads "KERNEL==\"\"" (1 ∷ []) "KERNEL==<>;" ∷ sets "link_priority=-2147483648" (negsuc 2147483647) ∷ sets "link_priority=2147483647" (pos 2147483647)
    -- document 02, Item 6: PROGRAM's value is a template with every operator, RESULT's a pattern
    ∷ reads "PROGRAM=\"a%k\", PROGRAM==\"[\", PROGRAM!=\"$result\", PROGRAM+=\"\", PROGRAM:=\"|\"" (1 ∷ []) "PROGRAM=<a%k>PROGRAM==<[>PROGRAM!=<$result>PROGRAM+=<>PROGRAM:=<|>;"
    ∷ reads "RESULT==\"a*\", RESULT!=\"$x\"" (1 ∷ []) "RESULT==<a*>RESULT!=<$x>;"
    ∷ unread "PROGRAM-=\"a\"" 13 1 ∷ unread "PROGRAM==\"$x\"" 15 1 ∷ unread "PROGRAM!=\"%c{1}\"" 15 1 ∷ unread "PROGRAM{a}=\"a\"" 12 1 ∷ unread "RESULT=\"a\"" 13 1
    ∷ unread "RESULT+=\"a\"" 13 1 ∷ unread "RESULT==\"[\"" 15 1 ∷ unread "RESULT{a}==\"a\"" 12 1 ∷ unread "PROGRAMS==\"a\"" 11 1 ∷ unread "SYMLINK+=\"$result{1}\"" 15 1
    -- document 02, Item 5
    ∷ reads "OPTIONS=\"watch\", OPTIONS+=\"nowatch\"" (1 ∷ []) "OPTIONS=<watch>OPTIONS+=<nowatch>;" ∷ unread "OPTIONS=\"watch \"" 15 1 ∷ unread "OPTIONS=\"Watch\"" 15 1 ∷ unread "OPTIONS=\"nowatch=1\"" 15 1 ∷ unread "OPTIONS:=\"watch\"" 13 1
    ∷ sets "link_priority=-0" (pos 0) ∷ sets "link_priority=-0000000001" (negsuc 0) ∷ sets "link_priority=0000000012" (pos 12) ∷ sets "link_priority=7" (pos 7)
    -- 16
    ∷ unread "LABEL=\"a\", LABEL=\"a\"" 16 1 ∷ unread "LABEL=\"a\", LABEL=\"b\"" 16 1 ∷ unread "GOTO=\"a\", GOTO=\"a\"" 16 1 ∷ unread "LABEL=\"a\", GOTO=\"b\", LABEL=\"c\"" 16 1
    ∷ unread "GOTO=\"a\", KERNEL==\"b\", GOTO=\"c\" x" 16 1 ∷ unread "LABEL=\"a\",LABEL=\"b\"x" 16 1 ∷ unread "LABEL=\"a\", LABEL=\"\"" 15 1 ∷ unread "LABEL=\"a\", GOTO=\"b\", KERNEL=\"c\"" 13 1
    ∷ reads "LABEL=\"a\"\nLABEL=\"a\"" (1 ∷ 2 ∷ []) "LABEL=<a>;LABEL=<a>;" ∷ reads_of (rep 31 "TAG=\"a\"," ∷ t "TAG=\"a\"" ∷ []) 1 ∷ refused_of (rep 32 "TAG=\"a\"," ∷ t "TAG=\"a\"" ∷ []) 16 1
    ∷ refused_of (rep 32 "TAG=\"a\"," ∷ t "TAG=\"a\" x" ∷ []) 16 1 ∷ refused_of (rep 32 "TAG=\"a\"," ∷ []) 11 1 ∷ refused_of (rep 32 "TAG=\"a\"," ∷ t "FOO" ∷ []) 11 1
    ∷ refused_of (rep 32 "TAG=\"a\"," ∷ t "ENV" ∷ []) 12 1 ∷ refused_of (rep 32 "TAG=\"a\"," ∷ t "TAG" ∷ []) 13 1 ∷ refused_of (rep 32 "TAG=\"a\"," ∷ t "TAG=\"" ∷ []) 14 1
    ∷ refused_of (rep 32 "TAG=\"a\"," ∷ t "TAG==\"[\"" ∷ []) 15 1 ∷ refused_of (rep 31 "TAG=\"a\"," ∷ t "TAG=\"a\" x" ∷ []) 17 1 ∷ refused_of (rep 32 "TAG=\"a\"," ∷ rep 3 "TAG=\"a\"," ∷ []) 16 1
    ∷ refused_of (rep 35 "TAG=\"a\"," ∷ t "FOO" ∷ []) 16 1
    -- 17
    ∷ unread "KERNEL==\"a\" x" 17 1 ∷ unread "KERNEL==\"a\"x" 17 1 ∷ unread "KERNEL==\"a\" # c" 17 1 ∷ unread "KERNEL==\"a\"\r" 17 1 ∷ unread "KERNEL==\"a\" ACTION==\"b\"" 17 1
    ∷ unread "KERNEL==\"a\"\"b\"" 17 1 ∷ unread "KERNEL==\"a\";" 17 1 ∷ unread "KERNEL==\"a\" \"" 17 1 ∷ unread "KERNEL==\"a\"\\ " 17 1 ∷ unread "LABEL=\"a\"LABEL=\"a\"" 17 1
    -- 18, and the order of the lines
    ∷ refused_of (t "GOTO=\"x\"\n" ∷ rep 511 "TAG=\"a\"\n" ∷ t "\n#\n" ∷ t "TAG=\"a\"\n\0" ∷ []) 18 515 ∷ refused_of (rep 512 "TAG=\"a\"\n" ∷ t "TAG=\"a" ∷ []) 14 513
    ∷ unread "KERNEL==\"a\"\nTAG=b\nFOO" 14 2 ∷ unread "KERNEL==\"a\"\n\n  FOO=\nTAG=b" 11 3 ∷ unread "KERNEL==\"[\", FOO" 15 1 ∷ unread "KERNEL==\"a\" x, FOO" 17 1
    -- document 02, Item 10: joined lines, and 20
    ∷ reads "TAG+=\\\n\"a\"\nTAG+=\"b\"" (1 ∷ 3 ∷ []) "TAG+=<a>;TAG+=<b>;" ∷ reads "TAG+=\"a\\\nb\"" (1 ∷ []) "TAG+=<ab>;" ∷ reads "TA\\\nG+\\\n=\"a\\\n\\\nb\"" (1 ∷ []) "TAG+=<ab>;" ∷ reads "TAG+=\"a\\\\\nb\"" (1 ∷ []) "TAG+=<a\\b>;"
    ∷ reads "TAG+=\"a\\\\\n\"b\"" (1 ∷ []) "TAG+=<a\"b>;"
    ∷ reads "# c\\\nTAG+=\"a\"" (2 ∷ []) "TAG+=<a>;" ∷ reads "\t # c\\\nTAG+=\"a\"" (2 ∷ []) "TAG+=<a>;" ∷ reads " \t\nTAG+=\"a\"" (2 ∷ []) "TAG+=<a>;" ∷ reads "\\\n# c\\\nTAG+=\"a\"\nTAG+=\"b\"" (4 ∷ []) "TAG+=<b>;"
    ∷ reads " \\\n\t\\\n \nTAG+=\"b\"" (4 ∷ []) "TAG+=<b>;" ∷ reads "\\\n\nTAG+=\"b\"" (3 ∷ []) "TAG+=<b>;" ∷ reads "TAG+=\"a\"\\\n\nTAG+=\"b\"" (1 ∷ 3 ∷ []) "TAG+=<a>;TAG+=<b>;" ∷ unread "\n\\\n \\\nTAG+=\"a\"\\\n" 20 2
    ∷ reads "# c\\" ([]) "" ∷ reads "# c\\\n" ([]) "" ∷ reads "\\\n " ([]) "" ∷ reads "TAG+=\"a\"\\\n\n" (1 ∷ []) "TAG+=<a>;"
    ∷ reads "\\\n\n" ([]) "" ∷ reads "#\\\n#\\" ([]) "" ∷ reads "GOTO=\"a\"\n\\\n\\\nLABEL=\"a\"" (1 ∷ 2 ∷ []) "GOTO=<a>;LABEL=<a>;" ∷ unread "\\" 20 1
    ∷ unread "\\\n" 20 1 ∷ unread "TAG+=\"a\"\\" 20 1 ∷ unread "TAG+=\"a\"\\\n" 20 1 ∷ unread "x\\" 20 1
    ∷ unread "\0\\" 20 1 ∷ unread "\\\\" 20 1 ∷ unread "\\\n\\\n" 20 1 ∷ unread "\\\n# c\\" 20 1
    ∷ unread " \\\n" 20 1 ∷ unread "TAG+=\"a\"\\\n# c" 17 1 ∷ unread "\n#\\\nTAG+=\"a\",\\\nTAG+=\"b\"\\" 20 3 ∷ unread "x\n\\" 11 1
    ∷ unread "GOTO=\"a\"\n\\" 20 2 ∷ unread "TAG+=\"a\"\\\nx\0" 10 1 ∷ unread "\nTAG+=\\\n\\\n\"a\" x\n" 17 2 ∷ unread "TAG+=\\\n\\\n\"a\"\nx" 11 4
    ∷ unread "TAG+=\"a\"\\\r\n" 17 1 ∷ unread "\\\nGOTO=\"a\"" 19 1 ∷ unread "#\0\\" 10 1 ∷ refused_of (rep 2000 "x" ∷ t "\\" ∷ []) 20 1
    ∷ refused_of (rep 512 "TAG+=\"a\"\n" ∷ t "TAG+=\"a\"\\\n" ∷ []) 20 513 ∷ reads_of (t "TAG+=\\\n\"a\"" ∷ rep 1016 " " ∷ []) 1 ∷ reads_of (t "TAG+=\"a\"" ∷ rep 1016 " " ∷ rep 3 "\\\n" ∷ t "\n" ∷ []) 1 ∷ refused_of (t "\nTAG+=\"a\"" ∷ rep 1016 " " ∷ t "\\\n " ∷ []) 10 2
    ∷ reads_of (t "# " ∷ rep 1021 "x" ∷ t "\\\n" ∷ []) 0 ∷ refused_of (t "# " ∷ rep 1022 "x" ∷ t "\\\n" ∷ []) 10 1 ∷ refused_of (rep 31 "TAG=\"a\",\\\n" ∷ t "TAG=\"a\",\\\nTAG=\"a\"" ∷ []) 16 1
    ∷ []

pub shown : wrong examples ≡ []
unfolding wrong right newlines stage_of lines_in numbered unjoined read_lent examples bytes built many name_of argument_text pair_text rule_text rules_text same_bytes
    starts span split_at items in_braces pattern.members pattern.body_of pattern.elements pattern.well_formed
    template.names template.letters template.name_in template.pieces template.well_formed
    rows row_in row_of value_of digits_from integer_of setting_of read_key is_type read_argument read_op quoted unescape read_plain escapes escape_in coded read_coded
    read_value sound read_pair read_pairs read_line lines collect goes_to settle text.read_text
shown = refl
