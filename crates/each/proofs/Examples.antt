-- Worked examples of a text run over the records of a set, in two tables under one computed claim.
-- Assumes nothing.
use Prim.Native.Nat.{ℕ, ◌+◌, ◌*◌}
use Prim.Native.String.{String}
use mathlib.Core.Path.{◌≡◌, refl}
use mathlib.Core.Bool.{Bool, true, false, ◌&&◌}
use mathlib.Core.List.{List, [], ◌∷◌, ◌++◌}
use lib.Dec.{eqb}
use lib.ListN.{length, replicate}
use Rattle.lists.specs.Bytes.{same_bytes}
use Rattle.lists.specs.Quoted.{bytes}
use Rattle.lists.specs.Sizes.{fullest_outcome}
use Rattle.bits.specs.Bits as bits
use Rattle.bits.specs.Fields as fields
use Rattle.device.specs.Device as device
use Rattle.device.specs.Head as device_head
use Rattle.engine.specs.Assign as assign
use Rattle.engine.specs.Match as matching
use Rattle.engine.specs.Operations as operations
use Rattle.engine.specs.Programs as programs
use Rattle.engine.specs.Step as step
use Rattle.engine.specs.Substitute as substitute
use Rattle.lists.specs.Bytes as bytes_of
use Rattle.lists.specs.Items as items
use Rattle.lists.specs.Quoted as quoted
use Rattle.lists.specs.Runs as runs
use Rattle.outcome.specs.Edits as edits
use Rattle.outcome.specs.Head as outcome_head
use Rattle.outcome.specs.State as outcome
use Rattle.pattern.specs.Pattern as pattern
use Rattle.rules.specs.Coded as coded
use Rattle.rules.specs.Key as key
use Rattle.rules.specs.Pair as pair
use Rattle.rules.specs.Reading as reading
use Rattle.rules.specs.Setting as setting
use Rattle.sheet.specs.Sheet as sheet
use Rattle.template.specs.Decimal as decimal
use Rattle.template.specs.Template as template
use Rattle.text.specs.Lines as lines
use Rattle.text.specs.Reading as text
use Rattle.text.specs.Running as running
use Rattle.sets.specs.Sets as sets
use Rattle.sets.specs.Lent.{Lent, encode_lent}
use Rattle.numbers.specs.Numbers.{most_numbers}
use Rattle.each.specs.Each as each

-- ---- what is lent

-- a device `/a`, packed by hand, with nothing else
abbrev bare : List ℕ
bare = 16 ∷ 0 ∷ 0 ∷ 0 ∷ 0 ∷ 0 ∷ 0 ∷ 1 ∷ 0 ∷ 0 ∷ 0 ∷ 47 ∷ 97 ∷ []

-- an outcome in which all is empty or zero
abbrev empty : List ℕ
empty = 32 ∷ 0 ∷ 0 ∷ 0 ∷ 0 ∷ 0 ∷ 0 ∷ 0 ∷ 0 ∷ 0 ∷ 0 ∷ 0 ∷ 0 ∷ []

abbrev lent : List ℕ → List ℕ → Lent
lent d o = record { device = d; outcome = o }

-- a sound pair, a faulty device, a faulty record
abbrev three : List Lent
three = lent bare empty ∷ lent (0 ∷ []) empty ∷ lent bare (0 ∷ []) ∷ []

-- the sheet with no entries
abbrev blank : List ℕ
blank = 0 ∷ []

-- the numbers of an answer: number, line, visited, used
abbrev gave : ℕ → ℕ → ℕ → ℕ → List ℕ
gave n l v u = n ∷ l ∷ v ∷ u ∷ 0 ∷ 0 ∷ 0 ∷ 0 ∷ []

-- ---- cases

pub data Case : Type 0 where
  -- a text with a sheet gives these numbers for the records of a set, and zeros in the room of one answer behind them
  gives : String → String → List ℕ → List Lent → List ℕ → Case
  -- bytes, a room for targets and one for numbers are refused with a number, or are not
  refuses : String → List ℕ → ℕ → ℕ → ℕ → Case

unfoldable pub right : Case → Bool
unfolding bytes_of.same_bytes bytes_of.starts runs.span runs.split_at runs.trim runs.chomp runs.ends_in_space runs.end_digits items.items items.in_braces quoted.bytes
    pattern.members pattern.body_of pattern.elements pattern.eats pattern.any_suffix pattern.fits pattern.alternative_matches pattern.well_formed
    pattern.matches template.names template.letters template.name_in template.pieces template.well_formed key.rows key.row_in key.row_of
    pair.is_builtin pair.value_of setting.digits_from setting.integer_of setting.setting_of
    reading.read_key reading.is_type reading.read_argument reading.read_op reading.quoted reading.unescape reading.read_plain
    coded.escapes coded.escape_in coded.coded reading.read_coded reading.read_value reading.sound reading.read_pair reading.read_pairs reading.read_line
    bits.to_bits bits.from_bits bits.bits_of bits.bytes_of bits.number_at fields.packed device_head.header device_head.lens_bytes
    device.action_names device.action_of device.encode device.decode outcome_head.header outcome.encode outcome.decode outcome.fresh
    edits.add_entry edits.replace_property edits.set_property lines.newlines lines.stage_of lines.lines_in lines.numbered lines.lines lines.unjoined
    text.read_lent text.collect text.goes_to text.settle text.read_text running.run_from
    matching.value_holds matching.list_holds matching.seen_by matching.attr_holds matching.driver_holds matching.key_holds matching.pair_holds matching.all_hold
    matching.has_parents matching.parent_holds matching.parents_hold matching.nearest matching.place_of matching.matched matching.tried decimal.decimal_on
    substitute.inserted substitute.piece_text substitute.text_of substitute.substituted substitute.filled
    assign.change_entry assign.names_in assign.change_links assign.linked assign.change_tags assign.tagged assign.change_runs assign.queued assign.owned
    assign.grouped assign.moded assign.change_properties assign.valued assign.assigned assign.assign_pair assign.assign_all
    programs.stored programs.asked programs.ask_pair programs.ask_all programs.result_holds programs.results_hold step.finished step.step_at step.step
    sheet.encode sheet.decode sheet.reply_to operations.decode_for operations.run_checked operations.ran operations.run sets.encode_set sets.decode_set
    each.each_checked each.each_answer
right (gives name t a ls ns) =
    let n = length ls in
    let e = each.each_answer (bytes t) (encode_lent ls) a (n * fullest_outcome) (n * most_numbers + most_numbers) in
    eqb e.own.number 0 && (eqb e.own.count n && (eqb e.own.used 0 && same_bytes e.answers (ns ++ replicate most_numbers 0)))
right (refuses name set room places n) =
    let e = each.each_answer [] set blank room places in
    eqb e.own.number n && (eqb e.own.position 0 && eqb (length e.answers) places)

abbrev name_of : Case → String
name_of (gives name t a ls ns) = name
name_of (refuses name set room places n) = name

unfoldable pub wrong : List Case → List String
unfolding right
wrong [] = []
wrong (c ∷ cs) = elim (right c) [ true ↦ wrong cs | false ↦ name_of c ∷ wrong cs ]

runs-given : List Case
runs-given =
    gives "no record" "" blank [] []
    ∷ gives "each by itself" "" blank three (gave 0 0 0 13 ++ (gave 3 0 0 0 ++ gave 4 0 0 0))
    ∷ gives "another order" "" blank (lent (0 ∷ []) empty ∷ lent bare empty ∷ []) (gave 3 0 0 0 ++ gave 0 0 0 13)
    ∷ gives "a rule" "TAG+=\"a\"" blank (lent bare empty ∷ lent bare empty ∷ []) (gave 0 0 1 15 ++ gave 0 0 1 15)
    ∷ gives "a refused text" "\nx" blank three (gave 11 2 0 0 ++ (gave 11 2 0 0 ++ gave 11 2 0 0))
    ∷ gives "a faulty sheet" "" [] three (gave 6 0 0 0 ++ (gave 3 0 0 0 ++ gave 4 0 0 0))
    ∷ []

refusals : List Case
unfolding sets.encode_set fields.packed bits.to_bits bits.from_bits bits.bytes_of
refusals =
    refuses "no bytes" [] 0 0 7
    ∷ refuses "a byte behind the last" (0 ∷ 0 ∷ []) 0 0 7
    ∷ refuses "7 before 1" (1 ∷ []) 0 0 7
    ∷ refuses "no record, no room" (0 ∷ []) 0 0 0
    ∷ refuses "targets short" (encode_lent (lent bare empty ∷ [])) 18124 8 1
    ∷ refuses "answers short" (encode_lent (lent bare empty ∷ [])) 18125 7 1
    ∷ refuses "room for one" (encode_lent (lent bare empty ∷ [])) 18125 8 0
    ∷ refuses "room for one of two" (encode_lent (lent bare empty ∷ lent bare empty ∷ [])) 18125 16 1
    ∷ []

shown : wrong (runs-given ++ refusals) ≡ []
unfolding wrong runs-given refusals
shown = refl
