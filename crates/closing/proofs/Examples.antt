-- Document 02, Item 13: worked examples, as one computed claim.
-- Assumes nothing.
use Prim.Native.Nat.{ℕ}
use Prim.Native.String.{String}
use mathlib.Core.Path.{◌≡◌, refl}
use mathlib.Core.Bool.{Bool, true, false, ◌&&◌}
use mathlib.Core.List.{List, [], ◌∷◌}
use lib.Dec.{eqb}
use lib.ListN.{take}
use Rattle.lists.specs.Bytes as bytes_of
use Rattle.lists.specs.Bytes.{same_bytes}
use Rattle.lists.specs.Runs as runs
use Rattle.lists.specs.Items as items
use Rattle.lists.specs.Quoted as quoted
use Rattle.lists.specs.Quoted.{bytes}
use Rattle.pattern.specs.Pattern as pattern
use Rattle.template.specs.Template as template
use Rattle.template.specs.Decimal as decimal
use Rattle.rules.specs.Key as key
use Rattle.rules.specs.Pair as pair
use Rattle.rules.specs.Setting as setting
use Rattle.rules.specs.Reading as reading
use Rattle.rules.specs.Coded as coded
use Rattle.bits.specs.Bits as bits
use Rattle.bits.specs.Fields as fields
use Rattle.device.specs.Head as device_head
use Rattle.device.specs.Device as device
use Rattle.outcome.specs.Head as outcome_head
use Rattle.outcome.specs.State as outcome
use Rattle.outcome.specs.Edits as edits
use Rattle.text.specs.Lines as lines
use Rattle.text.specs.Reading as text
use Rattle.text.specs.Running as running
use Rattle.text.specs.Run.{Answer}
use Rattle.sheet.specs.Sheet as sheet
use Rattle.engine.specs.Match as matching
use Rattle.engine.specs.Substitute as substitute
use Rattle.engine.specs.Assign as assigning
use Rattle.engine.specs.Step as step
use Rattle.engine.specs.Operations as operations
use Rattle.engine.specs.Programs as programs
use Rattle.writing.specs.Writing as writing
use Rattle.striking.specs.Striking as striking
use Rattle.closing.specs.Closing.{ClosingKey, links, tags, runs, owner, group, mode}
use Rattle.closing.specs.Dropping as dropping

pub data Case : Type 0 where
  -- a text without the assignments to a key is this text
  drops : String → ClosingKey → String → String → Case
  -- from the record that a first text leaves, a second one and what is left of it without the key give this number and line, and
  -- the same record; they visit so many rules, and try as many devices
  same : String → ClosingKey → List ℕ → String → String → ℕ → ℕ → ℕ → ℕ → ℕ → Case

unfoldable pub bare : List ℕ
bare = 16 ∷ 0 ∷ 0 ∷ 0 ∷ 0 ∷ 0 ∷ 0 ∷ 1 ∷ 0 ∷ 0 ∷ 0 ∷ 47 ∷ 97 ∷ []

unfoldable pub empty : List ℕ
empty = 32 ∷ 0 ∷ 0 ∷ 0 ∷ 0 ∷ 0 ∷ 0 ∷ 0 ∷ 0 ∷ 0 ∷ 0 ∷ 0 ∷ 0 ∷ []

-- a sheet with no entries, and one on which p succeeds with output x
unfoldable pub blank : List ℕ
blank = 0 ∷ []

unfoldable pub asks : List ℕ
asks = 1 ∷ 128 ∷ 32 ∷ 8 ∷ 112 ∷ 120 ∷ []

abbrev leaves : Answer → List ℕ
leaves a = take a.used a.bytes

abbrev alike : Answer → Answer → ℕ → ℕ → ℕ → ℕ → ℕ → Bool
alike a b n l v w t =
    eqb a.number n
    && (eqb b.number n
    && (eqb a.line l && (eqb b.line l && (eqb a.visited v && (eqb b.visited w && (eqb a.tried t && (eqb b.tried t && same_bytes (leaves a) (leaves b))))))))

unfoldable pub right : Case → Bool
unfolding bytes_of.same_bytes bytes_of.starts runs.span runs.split_at runs.trim runs.chomp runs.ends_in_space runs.end_digits items.items items.in_braces quoted.bytes
    pattern.members pattern.body_of pattern.elements pattern.eats pattern.any_suffix pattern.fits pattern.alternative_matches pattern.well_formed
    pattern.matches template.names template.letters template.name_in template.pieces template.well_formed key.rows key.row_in key.row_of
    pair.is_builtin pair.value_of setting.digits_from setting.integer_of setting.setting_of
    reading.read_key reading.is_type reading.read_argument reading.read_op reading.quoted reading.unescape reading.read_plain
    coded.escapes coded.escape_in coded.coded reading.read_coded reading.read_value reading.sound reading.read_pair reading.read_pairs reading.read_line
    bits.to_bits bits.from_bits bits.bits_of bits.bytes_of bits.number_at fields.packed device_head.header device_head.lens_bytes
    device.action_names device.action_of device.encode device.decode outcome_head.header outcome.encode outcome.decode outcome.fresh
    edits.add_entry edits.replace_property edits.set_property lines.newlines lines.stage_of lines.lines_in lines.numbered lines.lines lines.unjoined
    text.read_lent text.collect text.goes_to text.settle text.read_text running.run_from
    matching.value_holds matching.list_holds matching.seen_by matching.attr_holds matching.driver_holds matching.key_holds matching.pair_holds matching.all_hold
    matching.has_parents matching.parent_holds matching.parents_hold matching.nearest matching.place_of matching.matched matching.tried decimal.decimal_on
    substitute.inserted substitute.piece_text substitute.text_of substitute.substituted substitute.filled
    assigning.change_entry assigning.names_in assigning.change_links assigning.linked assigning.change_tags assigning.tagged assigning.change_runs
    assigning.queued assigning.owned assigning.grouped assigning.moded assigning.change_properties assigning.valued assigning.assigned assigning.assign_pair
    assigning.assign_all programs.stored programs.asked programs.ask_pair programs.ask_all programs.result_holds programs.results_hold
    step.finished step.step_at step.step sheet.encode sheet.decode sheet.reply_to
    operations.decode_for operations.run_checked operations.ran operations.run operations.fresh_checked operations.fresh operations.run_list
    operations.commands operations.close_checked operations.close
    writing.name_in writing.op_text writing.ends_in_slash writing.needs_code writing.value_text writing.pair_text writing.line_text striking.together
    dropping.drop_text bare empty blank asks
right (drops name k t u) = same_bytes (dropping.drop_text k (bytes t)) (bytes u)
right (same name k sheet base t n l v w c) =
    let out = leaves (operations.run (bytes base) bare empty sheet 18125) in
    alike (operations.run (bytes t) bare out sheet 18125) (operations.run (dropping.drop_text k (bytes t)) bare out sheet 18125) n l v w c

abbrev name_of : Case → String
name_of (drops name k t u) = name
name_of (same name k sheet base t n l v w c) = name

unfoldable pub wrong : List Case → List String
unfolding right
wrong [] = []
wrong (c ∷ cs) = elim (right c) [ true ↦ wrong cs | false ↦ name_of c ∷ wrong cs ]

pub examples : List Case
examples =
    drops "links" links "SYMLINK+=\"a\" , TAG+=\"b\"\n# c\nSYMLINK=\"x\"\nSYMLINK==\"a\", MODE = \"0660\"\n" "TAG+=\"b\"\n# c\n\nSYMLINK==\"a\",MODE=\"0660\"\n"
    ∷ drops "all operators" tags "TAG=\"a\",TAG+=\"a\",TAG-=\"a\",TAG:=\"a\",TAG!=\"a\"" "TAG!=\"a\""
    ∷ drops "all types" runs "RUN+=\"a\", RUN{program}+=\"b\", RUN{builtin}=\"c\", GOTO=\"l\"\n \n LABEL=\"l\"" "GOTO=\"l\"\n \nLABEL=\"l\""
    ∷ drops "nothing left" owner "OWNER=\"a\"" ""
    ∷ drops "marks" group "GROUP:=\"a\", ENV{k}=\"a\\\"\\\\b\"" "ENV{k}=\"a\\\"\\\\b\""
    ∷ drops "another key" mode "TAG+=\"m\",OPTIONS+=\"string_escape=none\"" "TAG+=\"m\",OPTIONS+=\"string_escape=none\""
    ∷ drops "joined lines" links "SYMLINK+=\\\n\"a\",\\\n TAG+=\"b\"\nSYMLINK=\\\n\"c\"\n\\\n # c\nTAG+=\"d\"" "TAG+=\"b\"\n\n\n\n\n\\\n # c\nTAG+=\"d\""
    ∷ drops "joined at the end" tags "ENV{k}=\\\n\"v\", TAG+=\\\n\"t\"" "ENV{k}=\"v\"\n\n"
    ∷ drops "nothing left of a join" tags "TAG+=\\\n\"t\"" "\n"
    ∷ drops "written as Item 2 does" mode "MODE=\"1\", ENV{k}=e\"a\\n\\\\\", ENV{l}=e\"b\"\n" "ENV{k}=e\"a\\n\\\\\",ENV{l}=\"b\"\n"
    ∷ drops "programs stay" links "PROGRAM:=\"p\", SYMLINK+=\"%c\", RESULT==\"x\"" "PROGRAM:=\"p\",RESULT==\"x\""
    -- a closed key is kept, one that is open is not
    ∷ same "links" links blank "SYMLINK:=\"a b\"" "SYMLINK=\"c\"\nTAG+=\"t\",SYMLINK-=\"a\"\nSYMLINK==\"a\",MODE=\"0660\"" 0 0 3 2 0
    ∷ same "what would be refused" links blank "SYMLINK:=\"a\"" "SYMLINK+=\"../x\"\nTAG+=\"t\"" 0 0 2 1 0
    ∷ same "refused elsewhere" tags blank "TAG:=\"a\"" "TAG+=\"b\"\nTAG=\"c\",MODE=\"888\"" 34 2 0 0 0
    ∷ same "a jump stays" mode blank "MODE:=\"0600\"" "MODE=\"1\"\nMODE=\"2\",GOTO=\"l\"\nTAG+=\"t\"\nMODE=\"3\",LABEL=\"l\"" 0 0 3 2 0
    ∷ same "runs" runs blank "RUN:=\"a\"" "RUN+=\"b\"" 0 0 1 0 0
    ∷ same "owner" owner blank "OWNER:=\"a\"" "OWNER=\"b\",GROUP=\"g\"" 0 0 1 1 0
    ∷ same "a program's output" links asks "SYMLINK:=\"a\"" "PROGRAM==\"p\",SYMLINK+=\"%c\",TAG+=\"t\"\nSYMLINK=\"%c\"\nRESULT==\"x\",ENV{k}=\"v\"" 0 0 3 2 0
    ∷ same "a command that is missing" links asks "SYMLINK:=\"a\"" "SYMLINK=\"b\"\n\\\nPROGRAM==\"q\",SYMLINK+=\"%c\"" 35 2 0 0 0
    ∷ same "devices tried" tags blank "TAG:=\"a\"" "TAG+=\"b\"\nKERNELS==\"a\",TAG+=\"c\"\nKERNELS==\"x\",TAG+=\"d\",KERNEL==\"a\"" 0 0 3 2 2
    ∷ same "line numbers behind joins" mode blank "MODE:=\"0\"" "MODE=\\\n\"1\"\nMODE=\"7\",\\\nTAG+=\"t\"\nOWNER=\"!\"" 33 5 0 0 0
    ∷ []

pub shown : wrong examples ≡ []
unfolding wrong examples
shown = refl
