-- Document 02, Item 14: worked examples, as one computed claim.
-- Assumes nothing.
use Prim.Native.Nat.{ℕ, ◌*◌, ◌/◌, ◌%◌}
use Prim.Native.String.{String}
use mathlib.Core.Path.{◌≡◌, refl}
use mathlib.Core.Bool.{Bool, true, false, not, ◌&&◌, ◌||◌}
use mathlib.Core.List.{List, [], ◌∷◌}
use lib.Dec.{eqb}
use lib.ListN.{length, take, replicate}
use Rattle.lists.specs.Bytes as bytes_of
use Rattle.lists.specs.Bytes.{same_bytes}
use Rattle.lists.specs.Runs as runs
use Rattle.lists.specs.Items as items
use Rattle.lists.specs.Quoted as quoted
use Rattle.lists.specs.Quoted.{bytes}
use Rattle.pattern.specs.Pattern as pattern
use Rattle.template.specs.Template as template
use Rattle.template.specs.Decimal as decimal
use Rattle.rules.specs.Key as key
use Rattle.rules.specs.Pair as pair
use Rattle.rules.specs.Setting as setting
use Rattle.rules.specs.Reading as reading
use Rattle.rules.specs.Coded as coded
use Rattle.bits.specs.Bits as bits
use Rattle.bits.specs.Fields as fields
use Rattle.device.specs.Head as device_head
use Rattle.device.specs.Device as device
use Rattle.outcome.specs.Head as outcome_head
use Rattle.outcome.specs.State as outcome
use Rattle.outcome.specs.Edits as edits
use Rattle.text.specs.Lines as lines
use Rattle.text.specs.Reading as text
use Rattle.text.specs.Running as running
use Rattle.sheet.specs.Sheet as sheet
use Rattle.engine.specs.Match as matching
use Rattle.engine.specs.Substitute as substitute
use Rattle.engine.specs.Assign as assigning
use Rattle.engine.specs.Step as step
use Rattle.engine.specs.Operations as operations
use Rattle.engine.specs.Programs as programs
use Rattle.sets.specs.Sets as sets
use Rattle.plan.specs.Plan as plan
use Rattle.plan.specs.Operations as planning
use Rattle.plan.specs.Operations.{Wish, encode_wishes, counted}

-- a device of one member with that path, packed by hand, and its wanted link
unfoldable pub wish : String → String → Wish
unfolding bytes
wish path link =
    let p = bytes path in
    record { device = 16 ∷ 0 ∷ 0 ∷ 0 ∷ 0 ∷ 0 ∷ 0 ∷ length p / 2 ∷ length p % 2 * 128 ∷ 0 ∷ 0 ∷ p; link = bytes link }

pub data Case : Type 0 where
  -- for these devices the checker accepts a text, or does not
  checks : String → List Wish → String → Bool → Case
  -- the planner has a text, which the checker accepts, or has none
  plans : String → List Wish → Bool → Case
  -- bytes that are lent as a set, and a room, are refused by both with a number and a position (1 by the planner only)
  refuses : String → List ℕ → ℕ → ℕ → ℕ → Case

unfoldable pub right : Case → Bool
unfolding bytes_of.same_bytes bytes_of.starts runs.span runs.split_at runs.trim runs.chomp runs.ends_in_space runs.end_digits items.items items.in_braces quoted.bytes
    pattern.members pattern.body_of pattern.elements pattern.eats pattern.any_suffix pattern.fits pattern.alternative_matches pattern.well_formed
    pattern.matches template.names template.letters template.name_in template.pieces template.well_formed key.rows key.row_in key.row_of
    pair.is_builtin pair.value_of setting.digits_from setting.integer_of setting.setting_of
    reading.read_key reading.is_type reading.read_argument reading.read_op reading.quoted reading.unescape reading.read_plain
    coded.escapes coded.escape_in coded.coded reading.read_coded reading.read_value reading.sound reading.read_pair reading.read_pairs reading.read_line
    bits.to_bits bits.from_bits bits.bits_of bits.bytes_of bits.number_at fields.packed device_head.header device_head.lens_bytes
    device.action_names device.action_of device.encode device.decode outcome_head.header outcome.encode outcome.decode outcome.fresh
    edits.add_entry edits.replace_property edits.set_property lines.newlines lines.stage_of lines.lines_in lines.numbered lines.lines lines.unjoined
    text.read_lent text.collect text.goes_to text.settle text.read_text running.run_from
    matching.value_holds matching.list_holds matching.seen_by matching.attr_holds matching.driver_holds matching.key_holds matching.pair_holds matching.all_hold
    matching.has_parents matching.parent_holds matching.parents_hold matching.nearest matching.place_of matching.matched matching.tried decimal.decimal_on
    substitute.inserted substitute.piece_text substitute.text_of substitute.substituted substitute.filled
    assigning.change_entry assigning.names_in assigning.change_links assigning.linked assigning.change_tags assigning.tagged assigning.change_runs
    assigning.queued assigning.owned assigning.grouped assigning.moded assigning.change_properties assigning.valued assigning.assigned assigning.assign_pair
    assigning.assign_all programs.stored programs.asked programs.ask_pair programs.ask_all programs.result_holds programs.results_hold
    step.finished step.step_at step.step sheet.encode sheet.decode sheet.reply_to
    operations.decode_for operations.run_checked operations.ran operations.run operations.fresh_checked operations.fresh operations.run_list
    operations.commands operations.close_checked operations.close sets.encode_set sets.decode_set plan.plan_rule plan.plan_text
    planning.namings_from planning.namings planning.check planning.plan_checked planning.plan
right (checks name ws t b) = let v = planning.check (encode_wishes ws) (bytes t) in eqb v.number 0 && eqb v.count (counted b)
right (plans name ws b) =
    let a = planning.plan (encode_wishes ws) 32768 in
    let v = planning.check (encode_wishes ws) (take a.used a.bytes) in
    eqb a.number 0 && (eqb a.count (counted b) && (eqb (counted (eqb a.used 0)) (counted (not b)) && eqb v.count (counted b)))
right (refuses name set room n p) =
    let a = planning.plan set room in
    let v = planning.check set [] in
    eqb a.number n && (eqb a.position p && (eqb a.used 0 && (eqb n 1 || (eqb v.number n && eqb v.position p))))

abbrev name_of : Case → String
name_of (checks name ws t b) = name
name_of (plans name ws b) = name
name_of (refuses name set room n p) = name

unfoldable pub wrong : List Case → List String
unfolding right
wrong [] = []
wrong (c ∷ cs) = elim (right c) [ true ↦ wrong cs | false ↦ name_of c ∷ wrong cs ]

pub examples : List Case
unfolding wish bytes
examples =
    plans "two" (wish "/devices/a/ttyUSB0" "rope/left" ∷ wish "/devices/a/ttyUSB1" "rope/right" ∷ []) true
    ∷ plans "a path that begins another" (wish "/a" "x" ∷ wish "/a/b" "y" ∷ wish "/a/b-c_d.e:f" "y/z" ∷ []) true
    ∷ plans "equal paths" (wish "/a" "x" ∷ wish "/a" "y" ∷ []) false
    ∷ plans "equal links" (wish "/a" "x" ∷ wish "/b" "x" ∷ []) false
    ∷ plans "no link" (wish "/a" "" ∷ []) false
    ∷ plans "not clean" (wish "/a" "x y" ∷ []) false
    ∷ plans "check 31" (wish "/a" "x/../y" ∷ []) false
    ∷ plans "another byte in the path" (wish "/a+b" "x" ∷ []) false
    ∷ plans "a path of 128 bytes" (wish "/aaaaaaaaaaaaaaaaaaaaaaaaaaaaaaaaaaaaaaaaaaaaaaaaaaaaaaaaaaaaaaaaaaaaaaaaaaaaaaaaaaaaaaaaaaaaaaaaaaaaaaaaaaaaaaaaaaaaaaaaaaaaaaa" "x" ∷ []) true
    ∷ plans "one of 129" (wish "/aaaaaaaaaaaaaaaaaaaaaaaaaaaaaaaaaaaaaaaaaaaaaaaaaaaaaaaaaaaaaaaaaaaaaaaaaaaaaaaaaaaaaaaaaaaaaaaaaaaaaaaaaaaaaaaaaaaaaaaaaaaaaaaa" "x" ∷ []) false
    ∷ checks "by name" (wish "/a/b" "b" ∷ wish "/a/c" "c" ∷ []) "SYMLINK+=\"%k\"" true
    ∷ checks "one link more" (wish "/a/b" "b" ∷ []) "SYMLINK+=\"%k d\"" false
    ∷ checks "another link" (wish "/a/b" "c" ∷ []) "SYMLINK+=\"%k\"" false
    ∷ checks "a longer link" (wish "/a/b" "b" ∷ []) "SYMLINK+=\"%kc\"" false
    ∷ checks "no link wanted" (wish "/a/b" "" ∷ []) "" false
    ∷ checks "a text that is not accepted" (wish "/a/b" "b" ∷ []) "SYMLINK+=\"b\"\nx" false
    ∷ checks "a run that is refused" (wish "/a/b" "b" ∷ wish "/a/c" "b" ∷ []) "SYMLINK+=\"b\"\nKERNEL==\"c\",MODE=\"8\"" false
    ∷ checks "kept as it is" (wish "/a" "x y" ∷ []) "OPTIONS+=\"string_escape=none\",ENV{x}=\"x y\",SYMLINK+=\"$env{x}\"" false
    ∷ checks "a program is asked" (wish "/a/b" "b" ∷ []) "SYMLINK+=\"b\"\nPROGRAM!=\"p\"" false
    ∷ checks "a program of another device" (wish "/a/b" "b" ∷ []) "SYMLINK+=\"b\"\nKERNEL==\"c\",PROGRAM==\"p\"" true
    ∷ checks "a result without a program" (wish "/a/b" "b" ∷ []) "RESULT==\"\",SYMLINK+=\"b\"" true
    ∷ checks "a joined line" (wish "/a/b" "b" ∷ []) "SYMLINK+=\\\n\"%k\"" true
    ∷ refuses "room" [] 32767 1 0
    ∷ refuses "no bytes" [] 32768 7 0
    ∷ refuses "no device" (0 ∷ []) 32768 7 0
    ∷ refuses "17 devices" (17 ∷ replicate 100 0) 32768 7 0
    ∷ refuses "bytes behind" (1 ∷ 0 ∷ 0 ∷ 0 ∷ 0 ∷ []) 32768 7 0
    ∷ refuses "a faulty device" (1 ∷ 0 ∷ 0 ∷ 0 ∷ []) 32768 3 1
    ∷ []

pub shown : wrong examples ≡ []
unfolding wrong examples
shown = refl
