-- Document 01, Reading a line: pairs and lines, with refusals 10 to 17 in the order in which they are given.
-- Assumes nothing.
use Rattle.std.specs.Prelude.{ℕ, zero, suc, Bool, true, false, not, ◌&&◌, ◌||◌, List, [], ◌∷◌, eqb, leb, length, get_or, drop}
use Rattle.std.specs.Prelude.{Option, None, Some}
use Rattle.lists.specs.Lists.{pick, is_empty, is_some}
use Rattle.lists.specs.Bytes.{is_upper, is_blank, same_bytes, holds}
use Rattle.lists.specs.Runs.{Part, span}
use Rattle.lists.specs.Items.{in_braces}
use Rattle.lists.specs.Checked.{Checked, refused, ok, ◌>>=◌, ◌>>◌, require, found}
use Rattle.lists.specs.Sizes.{most_line, most_value, most_pairs, most_tag}
use Rattle.lists.specs.Refusal.{Refusal, line_bad, key_bad, argument_bad, operator_bad, value_bad, content_bad, pair_extra, comma_missing}
use Rattle.lists.specs.Quoted.{bytes}
use Rattle.pattern.specs.Pattern as pattern
use Rattle.template.specs.Template as template
use Rattle.rules.specs.Key.{Key, ACTION, DEVPATH, KERNEL, KERNELS, SUBSYSTEM, SUBSYSTEMS, DRIVER, DRIVERS, ATTR, ATTRS, ENV, SYMLINK, TAG, OWNER, GROUP, MODE, RUN, LABEL, GOTO, OPTIONS, PROGRAM, RESULT, same_key}
use Rattle.rules.specs.Key.{Op, equal, unequal, assign, add, remove, final, is_match}
use Rattle.rules.specs.Key.{Takes, takes_none, takes_one, takes_type, Row, allows, row_of}
use Rattle.rules.specs.Pair.{Pair, Rule, label_of, goto_of}
use Rattle.rules.specs.Setting.{setting_of}
use Rattle.rules.specs.Coded.{coded}
use Rattle.text.specs.Engine.{LineRead, skip, fault, rule, Reader}

-- without the blanks at its start
abbrev pub unblank : List ℕ → List ℕ
unblank bs = (span is_blank bs).rest

-- ---- 11: the key

-- the row of the longest run of A to Z
unfoldable pub read_key : List ℕ → Checked Refusal (Part Row)
read_key bs =
    let run = span is_upper bs in
    found (row_of run.value) key_bad >>= λ r. ok (record { value = r; rest = run.rest })

-- ---- 12: the argument

abbrev pub absent : Takes → List ℕ → Checked Refusal (Part (List ℕ))
absent takes_none bs = ok (record { value = []; rest = bs })
absent takes_one bs = refused argument_bad
absent takes_type bs = ok (record { value = []; rest = bs })

-- program or builtin
unfoldable pub is_type : List ℕ → Bool
unfolding bytes
is_type a = same_bytes a (bytes "program") || same_bytes a (bytes "builtin")

-- behind an opening brace
abbrev pub present : Takes → List ℕ → Checked Refusal (Part (List ℕ))
present takes_none bs = refused argument_bad
present takes_one bs = found (in_braces bs) argument_bad
present takes_type bs = found (in_braces bs) argument_bad >>= λ a. require (is_type a.value) argument_bad >> ok a

abbrev pub argument_by : Bool → Takes → ℕ → List ℕ → Checked Refusal (Part (List ℕ))
argument_by true t b bs = present t bs
argument_by false t b bs = absent t (b ∷ bs)

-- the argument directly behind the key; empty where there is none
unfoldable pub read_argument : Takes → List ℕ → Checked Refusal (Part (List ℕ))
read_argument t [] = absent t []
read_argument t (b ∷ bs) = argument_by (eqb b 123) t b bs

-- ---- 13: the operator

abbrev pub if_equals : ℕ → Op → List ℕ → Option (Part Op)
if_equals c o rest = pick (eqb c 61) (Some (record { value = o; rest = rest })) None

-- the longest operator that two bytes begin with; the two rests stand behind one byte and behind both
abbrev pub op_of : ℕ → ℕ → List ℕ → List ℕ → Option (Part Op)
op_of b c after after2 =
    pick (eqb b 61) (pick (eqb c 61) (Some (record { value = equal; rest = after2 })) (Some (record { value = assign; rest = after })))
    (pick (eqb b 33) (if_equals c unequal after2)
    (pick (eqb b 43) (if_equals c add after2)
    (pick (eqb b 45) (if_equals c remove after2)
    (pick (eqb b 58) (if_equals c final after2) None))))

-- the operator at the head, one of those allowed; past the end of a line a byte reads as 0
unfoldable pub read_op : List Op → List ℕ → Checked Refusal (Part Op)
read_op allowed bs = do
  o ← found (op_of (get_or bs 0 0) (get_or bs 1 0) (drop 1 bs) (drop 2 bs)) operator_bad
  require (allows allowed o.value) operator_bad
  ok o

-- ---- 14: the value

abbrev pub quoted_step : Bool → ℕ → List ℕ → Option (Part (List ℕ)) → Option (Part (List ℕ))
quoted_step true b bs r = Some (record { value = []; rest = bs })
quoted_step false b bs None = None
quoted_step false b bs (Some p) = Some (record { value = b ∷ p.value; rest = p.rest })

-- the bytes up to the closing mark, as written: the first mark that has no backslash directly before it
unfoldable pub quoted : Bool → List ℕ → Option (Part (List ℕ))
quoted escaped [] = None
quoted escaped (b ∷ bs) = quoted_step (eqb b 34 && not escaped) b bs (quoted (eqb b 92) bs)

abbrev pub starts_mark : List ℕ → Bool
starts_mark [] = false
starts_mark (b ∷ bs) = eqb b 34

abbrev pub unescape_step : Bool → ℕ → List ℕ → List ℕ
unescape_step true b bs = bs
unescape_step false b bs = b ∷ bs

-- a backslash directly before a mark goes; every other one stays
unfoldable pub unescape : List ℕ → List ℕ
unescape [] = []
unescape (b ∷ bs) = unescape_step (eqb b 92 && starts_mark bs) b (unescape bs)

-- a plain value, unescaped: opened, closed, at most 256 bytes
unfoldable pub read_plain : List ℕ → Checked Refusal (Part (List ℕ))
read_plain bs = do
  require (starts_mark bs) value_bad
  written ← found (quoted false (drop 1 bs)) value_bad
  let value = unescape written.value
  require (leb (length value) most_value) value_bad
  ok (record { value = value; rest = written.rest })

-- document 02, Item 1: a value behind an `e` and the opening mark: each escape one of those that are known, closed, at most 256 bytes
unfoldable pub read_coded : List ℕ → Checked Refusal (Part (List ℕ))
read_coded bs = do
  v ← found (coded 0 bs) value_bad
  require (leb (length v.value) most_value) value_bad
  ok v

-- an `e` directly before a mark
abbrev pub starts_coded : List ℕ → Bool
starts_coded [] = false
starts_coded (b ∷ bs) = eqb b 101 && starts_mark bs

abbrev pub value_by : Bool → List ℕ → Checked Refusal (Part (List ℕ))
value_by true bs = read_coded (drop 2 bs)
value_by false bs = read_plain bs

-- the value at the head, in either form
unfoldable pub read_value : List ℕ → Checked Refusal (Part (List ℕ))
read_value bs = value_by (starts_coded bs) bs

-- ---- 15: the content

abbrev pub sound_assigned : Key → List ℕ → Bool
sound_assigned ACTION v = true
sound_assigned DEVPATH v = true
sound_assigned KERNEL v = true
sound_assigned KERNELS v = true
sound_assigned SUBSYSTEM v = true
sound_assigned SUBSYSTEMS v = true
sound_assigned DRIVER v = true
sound_assigned DRIVERS v = true
sound_assigned ATTR v = true
sound_assigned ATTRS v = true
sound_assigned ENV v = true
sound_assigned SYMLINK v = template.well_formed v
sound_assigned TAG v = leb (length v) most_tag
sound_assigned OWNER v = template.well_formed v
sound_assigned GROUP v = template.well_formed v
sound_assigned MODE v = template.well_formed v
sound_assigned RUN v = template.well_formed v
sound_assigned LABEL v = not (is_empty v)
sound_assigned GOTO v = not (is_empty v)
sound_assigned OPTIONS v = is_some (setting_of v)
sound_assigned PROGRAM v = template.well_formed v
sound_assigned RESULT v = true

abbrev pub sound_by : Bool → Key → List ℕ → Bool
sound_by true k v = pattern.well_formed v
sound_by false k v = sound_assigned k v

-- what is judged is a pattern; what is assigned has the form that its key asks for, and so has a PROGRAM with any operator (document 02, Item 6)
unfoldable pub sound : Key → Op → List ℕ → Bool
sound k o v = sound_by (is_match o && not (same_key k PROGRAM)) k v

-- ---- a pair, 11 to 15 in turn

unfoldable pub read_pair : List ℕ → Checked Refusal (Part Pair)
read_pair bs = do
  k ← read_key (unblank bs)
  a ← read_argument k.value.takes k.rest
  o ← read_op k.value.allowed (unblank a.rest)
  v ← read_value (unblank o.rest)
  require (sound k.value.key o.value v.value) content_bad
  ok (record {
    value = record { key = k.value.key; argument = a.value; op = o.value; value = v.value };
    rest = unblank v.rest;
  })

-- ---- 16 and 17: the pairs of a line

-- a LABEL behind a LABEL, or a GOTO behind a GOTO
abbrev pub again : Key → Bool → Bool → Bool
again k label goto = (same_key k LABEL && label) || (same_key k GOTO && goto)

abbrev pub comma_then : Bool → List ℕ → (List ℕ → Checked Refusal (List Pair)) → Checked Refusal (List Pair)
comma_then true bs others = others bs
comma_then false bs others = refused comma_missing

-- behind a pair: the line's end, or a comma and the other pairs
abbrev pub others : List ℕ → (List ℕ → Checked Refusal (List Pair)) → Checked Refusal (List Pair)
others [] k = ok []
others (b ∷ bs) k = comma_then (eqb b 44) bs k

-- the pairs of a line of which so many are still allowed, and whether a LABEL and a GOTO stand before them
unfoldable pub read_pairs : ℕ → Bool → Bool → List ℕ → Checked Refusal (List Pair)
read_pairs zero label goto bs = read_pair bs >>= λ p. refused pair_extra
read_pairs (suc k) label goto bs = do
  p ← read_pair bs
  let key = p.value.key
  require (not (again key label goto)) pair_extra
  ps ← others p.rest (λ rest. read_pairs k (label || same_key key LABEL) (goto || same_key key GOTO) rest)
  ok (p.value ∷ ps)

-- ---- a line

abbrev pub rule_read : Checked Refusal (List Pair) → LineRead Rule
rule_read (refused f) = fault f
rule_read (ok ps) = rule ps

abbrev pub comment_or : Bool → List ℕ → LineRead Rule
comment_or true bs = skip
comment_or false bs = rule_read (read_pairs most_pairs false false bs)

-- a line from its first byte that is no blank
abbrev pub read_unblank : List ℕ → LineRead Rule
read_unblank [] = skip
read_unblank (b ∷ bs) = comment_or (eqb b 35) (b ∷ bs)

abbrev pub read_sized : Bool → List ℕ → LineRead Rule
read_sized true l = read_unblank (unblank l)
read_sized false l = fault line_bad

-- 10 first, comments too; then 11 to 17
unfoldable pub read_line : List ℕ → LineRead Rule
read_line l = read_sized (leb (length l) most_line && not (holds 0 l)) l

-- ---- a text

-- how the text level reads this language
abbrev pub reader : Reader
reader = record { Rule = Rule; read_line = read_line; label = label_of; goto = goto_of }
