-- Document 02, Item 11: worked examples, as one computed claim.
-- Assumes nothing.
use Prim.Native.Nat.{ℕ}
use Prim.Native.String.{String}
use mathlib.Core.Path.{◌≡◌, refl}
use mathlib.Core.Bool.{Bool, true, false, ◌&&◌}
use mathlib.Core.List.{List, [], ◌∷◌, ◌++◌}
use lib.Dec.{eqb}
use lib.ListN.{take, replicate}
use Rattle.lists.specs.Bytes as bytes_of
use Rattle.lists.specs.Bytes.{same_bytes}
use Rattle.lists.specs.Runs as runs
use Rattle.lists.specs.Items as items
use Rattle.lists.specs.Quoted as quoted
use Rattle.lists.specs.Quoted.{bytes}
use Rattle.pattern.specs.Pattern as pattern
use Rattle.template.specs.Template as template
use Rattle.template.specs.Decimal as decimal
use Rattle.rules.specs.Key as key
use Rattle.rules.specs.Pair as pair
use Rattle.rules.specs.Setting as setting
use Rattle.rules.specs.Reading as reading
use Rattle.rules.specs.Coded as coded
use Rattle.bits.specs.Bits as bits
use Rattle.bits.specs.Fields as fields
use Rattle.device.specs.Head as device_head
use Rattle.device.specs.Device as device
use Rattle.outcome.specs.Head as outcome_head
use Rattle.outcome.specs.State as outcome
use Rattle.outcome.specs.Edits as edits
use Rattle.text.specs.Lines as lines
use Rattle.text.specs.Reading as text
use Rattle.text.specs.Running as running
use Rattle.sheet.specs.Sheet as sheet
use Rattle.engine.specs.Match as matching
use Rattle.engine.specs.Substitute as substitute
use Rattle.engine.specs.Assign as assigning
use Rattle.engine.specs.Step as step
use Rattle.engine.specs.Operations as operations
use Rattle.engine.specs.Programs as programs
use Rattle.sets.specs.Sets as sets
use Rattle.files.specs.Files as files
use Rattle.files.specs.Files.{File, encode_files}
use Rattle.files.specs.Operation as operation

-- rank, name, text
unfoldable pub file : ℕ → String → String → File
unfolding bytes
file r n t = record { rank = r; name = bytes n; text = bytes t }

unfoldable pub bare : List ℕ
bare = 16 ∷ 0 ∷ 0 ∷ 0 ∷ 0 ∷ 0 ∷ 0 ∷ 1 ∷ 0 ∷ 0 ∷ 0 ∷ 47 ∷ 97 ∷ []

unfoldable pub empty : List ℕ
empty = 32 ∷ 0 ∷ 0 ∷ 0 ∷ 0 ∷ 0 ∷ 0 ∷ 0 ∷ 0 ∷ 0 ∷ 0 ∷ 0 ∷ 0 ∷ []

-- a sheet with no entries
unfoldable pub blank : List ℕ
blank = 0 ∷ []

pub data Case : Type 0 where
  -- of these files, those with these texts count, in this order
  counts : String → List File → List String → Case
  -- on a device, a record and a sheet, a set of files has this number, position, line, visited and tried count
  answers : String → List File → List ℕ → List ℕ → List ℕ → ℕ → ℕ → ℕ → ℕ → ℕ → Case
  -- bytes that are lent as a set, and a room
  refuses : String → List ℕ → ℕ → ℕ → Case
  -- a set of files leaves what one text leaves
  leaves : String → List File → String → Case

abbrev texts : List File → List ℕ
texts [] = []
texts (f ∷ fs) = f.text ++ (10 ∷ texts fs)

abbrev joined : List String → List ℕ
unfolding bytes
joined [] = []
joined (t ∷ ts) = bytes t ++ (10 ∷ joined ts)

unfoldable pub right : Case → Bool
unfolding bytes_of.same_bytes bytes_of.starts runs.span runs.split_at runs.trim runs.chomp runs.ends_in_space runs.end_digits items.items items.in_braces quoted.bytes
    pattern.members pattern.body_of pattern.elements pattern.eats pattern.any_suffix pattern.fits pattern.alternative_matches pattern.well_formed
    pattern.matches template.names template.letters template.name_in template.pieces template.well_formed key.rows key.row_in key.row_of
    pair.is_builtin pair.value_of setting.digits_from setting.integer_of setting.setting_of
    reading.read_key reading.is_type reading.read_argument reading.read_op reading.quoted reading.unescape reading.read_plain
    coded.escapes coded.escape_in coded.coded reading.read_coded reading.read_value reading.sound reading.read_pair reading.read_pairs reading.read_line
    bits.to_bits bits.from_bits bits.bits_of bits.bytes_of bits.number_at fields.packed device_head.header device_head.lens_bytes
    device.action_names device.action_of device.encode device.decode outcome_head.header outcome.encode outcome.decode outcome.fresh
    edits.add_entry edits.replace_property edits.set_property lines.newlines lines.stage_of lines.lines_in lines.numbered lines.lines lines.unjoined
    text.read_lent text.collect text.goes_to text.settle text.read_text running.run_from
    matching.value_holds matching.list_holds matching.seen_by matching.attr_holds matching.driver_holds matching.key_holds matching.pair_holds matching.all_hold
    matching.has_parents matching.parent_holds matching.parents_hold matching.nearest matching.place_of matching.matched matching.tried decimal.decimal_on
    substitute.inserted substitute.piece_text substitute.text_of substitute.substituted substitute.filled
    assigning.change_entry assigning.names_in assigning.change_links assigning.linked assigning.change_tags assigning.tagged assigning.change_runs
    assigning.queued assigning.owned assigning.grouped assigning.moded assigning.change_properties assigning.valued assigning.assigned assigning.assign_pair
    assigning.assign_all programs.stored programs.asked programs.ask_pair programs.ask_all programs.result_holds programs.results_hold
    step.finished step.step_at step.step sheet.encode sheet.decode sheet.reply_to
    operations.decode_for operations.run_checked operations.ran operations.run operations.fresh_checked operations.fresh operations.run_list
    operations.commands operations.close_checked operations.close sets.encode_set sets.decode_set files.ends_in files.before files.winners files.position_from
    operation.load_all operation.run_loaded operation.run_files operation.files bare empty blank joined
right (counts name fs ts) = same_bytes (texts (files.winners fs)) (joined ts)
right (answers name fs dev out sheet n p l v w) =
    let a = operation.files (encode_files fs) dev out sheet 18125 in
    eqb a.number n && (eqb a.position p && (eqb a.line l && (eqb a.visited v && eqb a.tried w)))
right (refuses name set room n) = let a = operation.files set bare empty blank room in eqb a.number n && (eqb a.position 0 && eqb a.line 0)
right (leaves name fs t) =
    let a = operation.files (encode_files fs) bare empty blank 18125 in
    let b = operations.run (bytes t) bare empty blank 18125 in
    eqb a.number 0 && (eqb a.used b.used && same_bytes (take a.used a.bytes) (take b.used b.bytes))

abbrev name_of : Case → String
name_of (counts name fs ts) = name
name_of (answers name fs dev out sheet n p l v w) = name
name_of (refuses name set room n) = name
name_of (leaves name fs t) = name

unfoldable pub wrong : List Case → List String
unfolding right
wrong [] = []
wrong (c ∷ cs) = elim (right c) [ true ↦ wrong cs | false ↦ name_of c ∷ wrong cs ]

pub examples : List Case
unfolding file bare empty blank
examples =
    counts "byte order" (file 0 "a.rules" "1" ∷ file 0 "9.rules" "2" ∷ file 0 "10.rules" "3" ∷ file 0 "A.rules" "4" ∷ []) ("3" ∷ "2" ∷ "4" ∷ "1" ∷ [])
    ∷ counts "all four ranks" (file 3 "a.rules" "lib" ∷ file 1 "a.rules" "run" ∷ file 0 "a.rules" "etc" ∷ file 2 "a.rules" "local" ∷ []) ("etc" ∷ [])
    ∷ counts "no file in etc" (file 3 "a.rules" "lib" ∷ file 1 "a.rules" "run" ∷ file 2 "a.rules" "local" ∷ file 3 "b.rules" "lib" ∷ file 2 "b.rules" "local" ∷ []) ("run" ∷ "local" ∷ [])
    ∷ counts "a prefix first" (file 0 "a.rules.rules" "2" ∷ file 0 "a.rules" "1" ∷ []) ("1" ∷ "2" ∷ [])
    ∷ counts "ignored" (file 0 "a.conf" "1" ∷ file 0 "a.rules " "2" ∷ file 0 "a.RULES" "3" ∷ file 0 ".rules" "4" ∷ file 0 "rules" "5" ∷ []) ("4" ∷ [])
    ∷ counts "no files" [] []
    ∷ refuses "room" (33 ∷ []) 18124 1
    ∷ refuses "33 files" (33 ∷ replicate 200 0) 18125 7
    ∷ refuses "no bytes" [] 18125 7
    ∷ refuses "no name" (1 ∷ 0 ∷ 0 ∷ 0 ∷ 0 ∷ []) 18125 7
    ∷ refuses "fifth rank" (1 ∷ 4 ∷ 1 ∷ 97 ∷ 0 ∷ 0 ∷ []) 18125 7
    ∷ refuses "bytes behind" (1 ∷ 3 ∷ 1 ∷ 97 ∷ 0 ∷ 0 ∷ 0 ∷ []) 18125 7
    ∷ refuses "sound set" (1 ∷ 3 ∷ 1 ∷ 97 ∷ 0 ∷ 0 ∷ []) 18125 0
    ∷ answers "twice, ignored" (file 1 "a" "" ∷ file 1 "a" "" ∷ []) [] [] blank 21 0 0 0 0
    ∷ answers "twice, losers" (file 0 "a.rules" "" ∷ file 1 "a.rules" "" ∷ file 1 "a.rules" "x" ∷ []) bare empty blank 21 0 0 0 0
    ∷ answers "no file counts" [] [] empty blank 3 0 0 0 0
    ∷ answers "a faulty loser" (file 3 "a.rules" "x" ∷ file 2 "a.rules" "" ∷ file 0 "b" "x" ∷ []) bare empty blank 0 0 0 0 0
    ∷ answers "texts before 3" (file 0 "b.rules" "x" ∷ file 0 "a.rules" "TAG+=\"t\"\n\nTAG+=\"" ∷ []) [] [] blank 14 2 3 0 0
    ∷ answers "texts before runs" (file 0 "a.rules" "MODE=\"8\"" ∷ file 0 "b.rules" "LABEL=\"l\"" ∷ file 0 "c.rules" "\nTAG" ∷ []) bare empty blank 13 3 2 0 0
    ∷ answers "labels of one file" (file 0 "c.rules" "LABEL=\"l\"" ∷ file 0 "b.rules" "\nGOTO=\"l\"" ∷ []) bare empty blank 19 2 2 0 0
    ∷ answers "3 before 4" (file 0 "a.rules" "MODE=\"8\"" ∷ []) [] [] blank 3 0 0 0 0
    ∷ answers "4 before runs" (file 0 "a.rules" "MODE=\"8\"" ∷ []) bare [] blank 4 0 0 0 0
    ∷ answers "a refused run" (file 0 "z.rules" "MODE=\"8\"" ∷ file 3 "y.rules" "TAG+=\"t\"\nOWNER=\"!\"" ∷ []) bare empty blank 33 2 2 0 0
    ∷ answers "counts add up" (file 0 "a.rules" "TAG+=\"t\"\nTAG+=\"u\"" ∷ file 0 "b.rules" "TAG+=\"v\"" ∷ []) bare empty blank 0 0 0 3 0
    ∷ answers "4 before 6" (file 0 "a.rules" "MODE=\"8\"" ∷ []) bare [] [] 4 0 0 0 0
    ∷ answers "6 before runs" (file 0 "a.rules" "MODE=\"8\"" ∷ []) bare empty [] 6 0 0 0 0
    ∷ answers "6 where no file counts" [] bare empty (1 ∷ []) 6 0 0 0 0
    ∷ answers "tried adds up" (file 0 "a.rules" "KERNELS==\"a\"\nKERNELS==\"x\"" ∷ file 0 "b.rules" "KERNELS==\"a\",PROGRAM==\"p\"" ∷ []) bare empty (1 ∷ 128 ∷ 32 ∷ 0 ∷ 112 ∷ []) 0 0 0 3 3
    ∷ answers "one sheet for all" (file 0 "a.rules" "PROGRAM==\"p\"" ∷ file 0 "b.rules" "\nPROGRAM==\"q\"" ∷ []) bare empty (1 ∷ 128 ∷ 32 ∷ 0 ∷ 112 ∷ []) 35 2 2 0 0
    ∷ leaves "closed on the way" (file 0 "b.rules" "SYMLINK+=\"b\",TAG+=\"t\"" ∷ file 3 "a.rules" "SYMLINK:=\"a\"" ∷ []) "SYMLINK:=\"a\",TAG+=\"t\""
    ∷ leaves "another order" (file 3 "a.rules" "SYMLINK:=\"a\"" ∷ file 0 "b.rules" "SYMLINK+=\"b\",TAG+=\"t\"" ∷ []) "SYMLINK:=\"a\",TAG+=\"t\""
    ∷ leaves "disabled" (file 3 "a.rules" "TAG+=\"t\"" ∷ file 0 "a.rules" "" ∷ []) ""
    ∷ []

pub shown : wrong examples ≡ []
unfolding wrong examples
shown = refl
