-- Kinds of worked examples, what makes one right, and the devices and records that they speak of.
-- Assumes nothing.
use Prim.Native.Nat.{ℕ}
use Prim.Native.String.{String}
use mathlib.Core.Bool.{Bool, true, false, not, ◌&&◌}
use mathlib.Core.List.{List, [], ◌∷◌}
use lib.Dec.{eqb}
use lib.ListN.{length, take, drop, set}
use Rattle.lists.specs.Lists.{all}
use Rattle.lists.specs.Bytes.{same_bytes}
use Rattle.lists.specs.Runs.{Part}
use Rattle.lists.specs.Checked.{Checked, refused, ok, Placed, line}
use Rattle.lists.specs.Refusal.{Refusal, number}
use Rattle.lists.specs.Quoted.{bytes}
use Rattle.entries.specs.Entry.{Property}
use Rattle.device.specs.Device.{Member, Device}
use Rattle.rules.specs.Pair.{Rule}
use Rattle.text.specs.Run.{Answer}
use Rattle.lists.specs.Bytes as bytes_of
use Rattle.lists.specs.Runs as runs
use Rattle.lists.specs.Items as items
use Rattle.lists.specs.Quoted as quoted
use Rattle.pattern.specs.Pattern as pattern
use Rattle.template.specs.Template as template
use Rattle.template.specs.Decimal as decimal
use Rattle.rules.specs.Key as key
use Rattle.rules.specs.Pair as pair
use Rattle.rules.specs.Setting as setting
use Rattle.rules.specs.Coded as coded
use Rattle.rules.specs.Reading as reading
use Rattle.bits.specs.Bits as bits
use Rattle.bits.specs.Fields as fields
use Rattle.device.specs.Head as device_head
use Rattle.device.specs.Device as device
use Rattle.outcome.specs.Head as outcome_head
use Rattle.outcome.specs.State as outcome
use Rattle.outcome.specs.Old as outcome1
use Rattle.outcome.specs.Edits as edits
use Rattle.text.specs.Lines as lines
use Rattle.text.specs.Reading as text
use Rattle.text.specs.Running as running
use Rattle.sheet.specs.Sheet as sheet
use Rattle.sheet.specs.Sheet.{Reply, Sheet}
use Rattle.engine.specs.Match as matching
use Rattle.engine.specs.Substitute as substitute
use Rattle.engine.specs.Assign as assign
use Rattle.engine.specs.Programs as programs
use Rattle.engine.specs.Step as step
use Rattle.engine.specs.Operations as operations
use Rattle.engine.specs.Convert as convert
use Rattle.engine.specs.Listing as listing

-- ---- devices

unfoldable pub properties : List (String × String) → List Property
unfolding bytes
properties [] = []
properties (p ∷ ps) = record { key = bytes p.0; value = bytes p.1 } ∷ properties ps

unfoldable pub member : String → String → String → List (String × String) → Member
unfolding bytes properties
member path subsystem driver attributes = record { path = bytes path; subsystem = bytes subsystem; driver = bytes driver; attributes = properties attributes }

-- a device with a node, added
unfoldable pub device_of : List (String × String) → Member → List Member → Device
unfolding properties
device_of ps e ms = record { action = 0; node = 1; major = 188; minor = 3; properties = properties ps; event = e; parents = ms }

unfoldable pub alone : List (String × String) → String → List (String × String) → Device
unfolding device_of member
alone ps path attributes = device_of ps (member path "block" "" attributes) []

-- ttyUSB0 with a parent that has the serial RC-0417, and a hub above that
unfoldable pub tty : Device
unfolding device_of member
tty =
    device_of [] (member "/devices/usb1/1-1/ttyUSB0" "tty" "" [])
    (member "/devices/usb1/1-1" "usb" "ftdi" (("serial", "RC-0417") ∷ [])
    ∷ member "/devices/usb1" "usb" "usb" (("serial", "hub") ∷ [])
    ∷ [])

-- the same without the hub, as the listing's example has it
unfoldable pub usb : Device
unfolding device_of member
usb = device_of [] (member "/devices/1-1/ttyUSB0" "tty" "" []) (member "/devices/1-1" "usb" "ftdi" (("serial", "RC-0417") ∷ []) ∷ [])

-- a chain of 16 devices, /a/b/../p to /a
unfoldable pub chain16 : Device
unfolding device_of member
chain16 = device_of [] (member "/a/b/c/d/e/f/g/h/i/j/k/l/m/n/o/p" "s" "" [])
    (member "/a/b/c/d/e/f/g/h/i/j/k/l/m/n/o" "s" "" []
    ∷ member "/a/b/c/d/e/f/g/h/i/j/k/l/m/n" "s" "" []
    ∷ member "/a/b/c/d/e/f/g/h/i/j/k/l/m" "s" "" []
    ∷ member "/a/b/c/d/e/f/g/h/i/j/k/l" "s" "" []
    ∷ member "/a/b/c/d/e/f/g/h/i/j/k" "s" "" []
    ∷ member "/a/b/c/d/e/f/g/h/i/j" "s" "" []
    ∷ member "/a/b/c/d/e/f/g/h/i" "s" "" []
    ∷ member "/a/b/c/d/e/f/g/h" "s" "" []
    ∷ member "/a/b/c/d/e/f/g" "s" "" []
    ∷ member "/a/b/c/d/e/f" "s" "" []
    ∷ member "/a/b/c/d/e" "s" "" []
    ∷ member "/a/b/c/d" "s" "" []
    ∷ member "/a/b/c" "s" "" []
    ∷ member "/a/b" "s" "" []
    ∷ member "/a" "s" "d" (("f", "top") ∷ [])
    ∷ [])

-- a sheet with no entries, and an entry
unfoldable pub blank : List ℕ
blank = 0 ∷ []

unfoldable pub answer : String → Bool → String → Reply
unfolding bytes
answer c good o = record { success = good; command = bytes c; output = bytes o }

-- what programs said
unfoldable pub said : List Reply
unfolding answer
said =
    answer "q" true "yes\n\n" ∷ answer "f" false "no" ∷ answer "r ttyUSB0" true "a b\n" ∷ answer "n" true "" ∷ answer "got yes" true "2"
    ∷ answer "m" true "0666" ∷ answer "w" true " \t" ∷ answer "i" true "a\nb\r\n" ∷ []

-- ---- cases

pub data Case : Type 0 where
  -- a pattern that is well formed matches a value, or does not
  matches : String → String → String → Bool → Case
  -- a value in quotation marks has so many bytes
  valued : String → String → ℕ → Case
  -- a text is refused with a number, at a line
  refuses : String → String → ℕ → ℕ → Case
  -- on a device, from its fresh record, a text gives this listing
  lists : String → Device → String → String → Case
  -- the same with an answer sheet (document 02, Item 6)
  sheets : String → Device → List Reply → String → String → Case
  -- an answer has this number, line, visited count and used length, fills its room, and is zero behind the used bytes
  answers : String → Answer → ℕ → ℕ → ℕ → ℕ → ℕ → Case
  -- an answer has this count of devices tried (document 02, Item 9)
  tries : String → Answer → ℕ → Case
  -- an accepted answer's record is these bytes
  leaves : String → Answer → List ℕ → Case

abbrev same : Bool → Bool → Bool
same true b = b
same false b = not b

abbrev has_length : Checked Refusal (Part (List ℕ)) → ℕ → Bool
has_length (refused f) n = false
has_length (ok v) n = eqb (length v.value) n

abbrev is_refused : Checked (Placed Refusal) (List (Placed Rule)) → ℕ → ℕ → Bool
is_refused (refused (line l f)) n m = eqb (number f) n && eqb l m
is_refused (ok rs) n m = false

unfoldable pub right : Case → Bool
unfolding blank bytes_of.same_bytes bytes_of.starts runs.span runs.split_at runs.trim runs.chomp runs.ends_in_space runs.end_digits items.items items.in_braces
    quoted.bytes
    pattern.members pattern.body_of pattern.elements pattern.eats pattern.any_suffix pattern.fits pattern.alternative_matches pattern.well_formed
    pattern.matches template.names template.letters template.name_in template.pieces template.well_formed key.rows key.row_in key.row_of
    pair.is_builtin pair.value_of setting.digits_from setting.integer_of setting.setting_of
    reading.read_key reading.is_type reading.read_argument reading.read_op reading.quoted reading.unescape reading.read_plain
    coded.escapes coded.escape_in coded.coded reading.read_coded reading.read_value reading.sound reading.read_pair reading.read_pairs reading.read_line
    bits.to_bits bits.from_bits bits.bits_of bits.bytes_of bits.number_at fields.packed device_head.header device_head.lens_bytes
    device.action_names device.action_of device.encode device.decode outcome_head.header outcome.encode outcome.decode outcome.fresh
    outcome1.renewed outcome1.aged outcome1.encode_old outcome1.decode_old edits.add_entry edits.replace_property edits.set_property
    lines.newlines lines.stage_of lines.lines_in lines.numbered lines.lines lines.unjoined text.read_lent text.collect text.goes_to text.settle text.read_text
    running.run_from
    matching.value_holds matching.list_holds matching.seen_by matching.attr_holds matching.driver_holds matching.key_holds matching.pair_holds matching.all_hold
    matching.has_parents matching.parent_holds matching.parents_hold matching.nearest matching.place_of matching.matched matching.tried decimal.decimal_on
    substitute.inserted substitute.piece_text substitute.text_of substitute.substituted substitute.filled
    assign.change_entry assign.names_in assign.change_links assign.linked assign.change_tags assign.tagged assign.change_runs assign.queued assign.owned
    assign.grouped assign.moded assign.change_properties assign.valued assign.assigned assign.assign_pair assign.assign_all
    programs.stored programs.asked programs.ask_pair programs.ask_all programs.result_holds programs.results_hold step.finished step.step_at step.step
    sheet.encode sheet.decode sheet.reply_to
    operations.decode_for operations.run_checked operations.ran operations.run operations.fresh_checked operations.fresh operations.run_list
    operations.commands operations.close_checked operations.close
    convert.decode_old_for convert.newer_checked convert.newer convert.older_checked convert.older
    listing.escaped listing.line_of listing.listing_of listing.listed listing.printed listing.listing_from listing.listing
right (matches name p v b) = pattern.well_formed (bytes p) && same b (pattern.matches (bytes p) (bytes v))
right (valued name v n) = has_length (reading.read_value (bytes v)) n
right (refuses name t n l) = is_refused (text.read_text reading.reader (bytes t)) n l
right (lists name d t shown) = same_bytes (listing.listing (bytes t) (device.encode d) blank) (bytes shown)
right (sheets name d a t shown) = same_bytes (listing.listing (bytes t) (device.encode d) (sheet.encode a)) (bytes shown)
right (answers name a n l v u room) =
    eqb a.number n
    && (eqb a.line l
    && (eqb a.visited v && (eqb a.used u && (eqb (length a.bytes) room && all (λ b. eqb b 0) (drop u a.bytes)))))
right (tries name a n) = eqb a.tried n
right (leaves name a made) = eqb a.number 0 && same_bytes (take a.used a.bytes) made

abbrev name_of : Case → String
name_of (matches name p v b) = name
name_of (valued name v n) = name
name_of (refuses name t n l) = name
name_of (lists name d t shown) = name
name_of (sheets name d a t shown) = name
name_of (answers name a n l v u room) = name
name_of (tries name a n) = name
name_of (leaves name a made) = name

-- the names of the cases that do not come out as written
unfoldable pub wrong : List Case → List String
unfolding right
wrong [] = []
wrong (c ∷ cs) = elim (right c) [ true ↦ wrong cs | false ↦ name_of c ∷ wrong cs ]

-- ---- records

-- a record with one byte changed
unfoldable pub changed : ℕ → ℕ → List ℕ → List ℕ
changed i v bs = set bs i v

-- a device of one member, packed by hand: edition 1, action add, no node, no properties; `/a`, no more
unfoldable pub bare : List ℕ
bare = 16 ∷ 0 ∷ 0 ∷ 0 ∷ 0 ∷ 0 ∷ 0 ∷ 1 ∷ 0 ∷ 0 ∷ 0 ∷ 47 ∷ 97 ∷ []

-- its fresh record: edition 2 and zeros
unfoldable pub empty : List ℕ
empty = 32 ∷ 0 ∷ 0 ∷ 0 ∷ 0 ∷ 0 ∷ 0 ∷ 0 ∷ 0 ∷ 0 ∷ 0 ∷ 0 ∷ 0 ∷ []

-- the same of edition 1 (document 02, Item 5)
unfoldable pub empty1 : List ℕ
empty1 = 16 ∷ 0 ∷ 0 ∷ 0 ∷ 0 ∷ 0 ∷ 0 ∷ 0 ∷ 0 ∷ 0 ∷ 0 ∷ []

unfoldable pub refused3 : String → List ℕ → Case
refused3 name dev = answers name (operations.fresh dev 18125) 3 0 0 0 18125

-- beside the bare device
unfoldable pub refused4 : String → List ℕ → Case
refused4 name out = answers name (operations.run [] bare out blank 18125) 4 0 0 0 18125

unfoldable pub sound4 : String → List ℕ → Case
sound4 name out = leaves name (operations.run [] bare out blank 18125) out

-- a record with counts in the bytes 8 to 10 of its header, and entries
unfoldable pub record_of : ℕ → ℕ → ℕ → List ℕ → List ℕ
record_of b8 b9 b10 entries = 32 ∷ 0 ∷ 0 ∷ 0 ∷ 0 ∷ 0 ∷ 0 ∷ 0 ∷ b8 ∷ b9 ∷ b10 ∷ 0 ∷ 0 ∷ entries
