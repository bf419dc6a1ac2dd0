-- Document 01, Running: what an assignment does to the outcome, or why it is refused (30 to 36).
-- Assumes nothing.
use Rattle.std.specs.Prelude.{ℕ, Bool, true, false, not, ◌&&◌, ◌||◌, List, [], ◌∷◌, map, leb, length}
use Rattle.std.specs.Prelude.{Option, None, Some}
use Rattle.lists.specs.Lists.{pick, is_empty, reject}
use Rattle.lists.specs.Bytes.{is_digit, holds, is_letter}
use Rattle.lists.specs.Runs.{split_at}
use Rattle.lists.specs.Checked.{Checked, refused, ok, ◌>>=◌, ◌>>◌, require}
use Rattle.lists.specs.Sizes.{most_links, most_tags, most_runs}
use Rattle.lists.specs.Refusal.{Refusal, link_bad, owner_bad, mode_bad, mode_shared}
use Rattle.bits.specs.Signed.{from_signed}
use Rattle.entries.specs.Entry.{Property}
use Rattle.rules.specs.Key.{Key, ACTION, DEVPATH, KERNEL, KERNELS, SUBSYSTEM, SUBSYSTEMS, DRIVER, DRIVERS, ATTR, ATTRS, ENV, SYMLINK, TAG, OWNER, GROUP, MODE, RUN, LABEL, GOTO, OPTIONS, PROGRAM, RESULT, Op, equal, unequal, assign, add, remove, final, is_match}
use Rattle.rules.specs.Pair.{Pair, Rule, is_builtin}
use Rattle.rules.specs.Setting.{Setting, escape_none, escape_replace, watched, unwatched, priority, setting_of}
use Rattle.device.specs.Device.{Device}
use Rattle.outcome.specs.Content.{ok_name, ok_owner, ok_mode, mode_number, others_write}
use Rattle.outcome.specs.Head.{Closed}
use Rattle.outcome.specs.State.{Run, State}
use Rattle.outcome.specs.Change.{with_closed, with_owner, with_group, with_mode, with_priority, with_watch, with_links, with_properties, with_tags, with_runs, shut_links, shut_tags, shut_runs, shut_owner, shut_group, shut_mode}
use Rattle.outcome.specs.Edits.{append, add_entry, remove_entry, remove_property, set_property}
use Rattle.engine.specs.Substitute.{Source, filled}

-- this rule's latest `string_escape`
pub data Escape : Type 0 where
  unset as_is replaced : Escape

-- what is at hand between two assignments of a rule
pub record Work : Type 0 where
  pub state : State
  pub escape : Escape

abbrev pub left : Work → State → Work
left w s = record { state = s; escape = w.escape }

-- ---- the byte rule

-- letters, digits and `#+-.:=@_/`
abbrev pub link_byte : ℕ → Bool
link_byte b = is_letter b || (is_digit b || holds b (35 ∷ 43 ∷ 45 ∷ 46 ∷ 58 ∷ 61 ∷ 64 ∷ 95 ∷ 47 ∷ []))

abbrev pub clean_byte : ℕ → ℕ
clean_byte b = pick (link_byte b) b 95

abbrev pub cleaned : List ℕ → List ℕ
cleaned x = map clean_byte x

abbrev pub is_as_is : Escape → Bool
is_as_is unset = false
is_as_is as_is = true
is_as_is replaced = false

-- a link's name under the setting, and a property's value
abbrev pub clean_name : Escape → List ℕ → List ℕ
clean_name unset x = cleaned x
clean_name as_is x = x
clean_name replaced x = cleaned x

abbrev pub clean_value : Escape → List ℕ → List ℕ
clean_value unset x = x
clean_value as_is x = x
clean_value replaced x = cleaned x

-- ---- lists

-- `=` and `:=` begin with no entries, the others with those that are there
abbrev pub kept : {A : Type 0} → Op → List A → List A
kept assign xs = []
kept final xs = []
kept equal xs = xs
kept unequal xs = xs
kept add xs = xs
kept remove xs = xs

abbrev pub is_remove : Op → Bool
is_remove remove = true
is_remove equal = false
is_remove unequal = false
is_remove assign = false
is_remove add = false
is_remove final = false

-- `:=` closes
abbrev pub closing : Op → (Closed → Closed) → State → State
closing final f s = with_closed s (f s.closed)
closing assign f s = s
closing equal f s = s
closing unequal f s = s
closing add f s = s
closing remove f s = s

-- what is added or removed, by the operator
unfoldable pub change_entry : Op → ℕ → List ℕ → List (List ℕ) → Checked Refusal (List (List ℕ))
change_entry o most x xs = elim (is_remove o) [ true ↦ ok (remove_entry x xs) | false ↦ add_entry most x xs ]

-- ---- SYMLINK

-- the names in a substituted text: split at runs of spaces, each cleaned as the setting asks
unfoldable pub names_in : Escape → List ℕ → List (List ℕ)
names_in e t = map (clean_name e) (reject (λ x. is_empty x) (split_at 32 t))

-- name by name: check 31, then the change (32)
unfoldable pub change_links : Op → List (List ℕ) → List (List ℕ) → Checked Refusal (List (List ℕ))
change_links o [] ls = ok ls
change_links o (x ∷ xs) ls = require (ok_name x) link_bad >> (change_entry o most_links x ls >>= λ ls'. change_links o xs ls')

-- from what substitutions come now
abbrev pub source_of : Device → ℕ → State → Source
source_of d place s = record { device = d; place = place; properties = s.properties; output = s.output }

unfoldable pub linked : Device → ℕ → Pair → Work → Checked Refusal State
linked d place p w = do
  t ← filled (not (is_as_is w.escape)) (source_of d place w.state) p.value
  ls ← change_links p.op (names_in w.escape t) (kept p.op w.state.links)
  ok (closing p.op shut_links (with_links w.state ls))

-- ---- TAG

-- an empty value adds and removes nothing
unfoldable pub change_tags : Op → List ℕ → List (List ℕ) → Checked Refusal (List (List ℕ))
change_tags o x ts = elim (is_empty x) [ true ↦ ok ts | false ↦ change_entry o most_tags x ts ]

unfoldable pub tagged : Pair → State → Checked Refusal State
tagged p s = do
  ts ← change_tags p.op p.value (kept p.op s.tags)
  ok (closing p.op shut_tags (with_tags s ts))

-- ---- RUN

abbrev pub run_for : ℕ → Pair → Run
run_for place p = record { builtin = is_builtin p; place = place; template = p.value }

-- added whether or not it is there
unfoldable pub change_runs : ℕ → Pair → List Run → Checked Refusal (List Run)
change_runs place p rs = elim (is_empty p.value) [ true ↦ ok rs | false ↦ append most_runs (run_for place p) rs ]

unfoldable pub queued : ℕ → Pair → State → Checked Refusal State
queued place p s = do
  rs ← change_runs place p (kept p.op s.runs)
  ok (closing p.op shut_runs (with_runs s rs))

-- ---- OWNER, GROUP, MODE

-- 33
abbrev pub owner_in : List ℕ → Checked Refusal (List ℕ)
owner_in t = elim (leb 1 (length t) && ok_owner t) [ true ↦ ok t | false ↦ refused owner_bad ]

unfoldable pub owned : Device → ℕ → Pair → State → Checked Refusal State
owned d place p s = do
  t ← filled false (source_of d place s) p.value
  x ← owner_in t
  ok (closing p.op shut_owner (with_owner s x))

unfoldable pub grouped : Device → ℕ → Pair → State → Checked Refusal State
grouped d place p s = do
  t ← filled false (source_of d place s) p.value
  x ← owner_in t
  ok (closing p.op shut_group (with_group s x))

-- 34, then 36 (document 02, Item 8)
abbrev pub mode_in : List ℕ → Checked Refusal ℕ
mode_in t = do
  require (ok_mode t) mode_bad
  require (not (others_write (mode_number t))) mode_shared
  ok (mode_number t)

unfoldable pub moded : Device → ℕ → Pair → State → Checked Refusal State
moded d place p s = do
  t ← filled false (source_of d place s) p.value
  m ← mode_in t
  ok (closing p.op shut_mode (with_mode s m))

-- ---- ENV

-- the empty value removes
unfoldable pub change_properties : Escape → List ℕ → List ℕ → List Property → Checked Refusal (List Property)
change_properties e k v ps = elim (is_empty v) [ true ↦ ok (remove_property k ps) | false ↦ set_property k (clean_value e v) ps ]

unfoldable pub valued : Escape → Pair → State → Checked Refusal State
valued e p s = do
  ps ← change_properties e p.argument p.value s.properties
  ok (with_properties s ps)

-- ---- OPTIONS

abbrev pub set_by : Option Setting → Work → Work
set_by None w = w
set_by (Some escape_none) w = record { state = w.state; escape = as_is }
set_by (Some escape_replace) w = record { state = w.state; escape = replaced }
-- document 02, Item 5: it stays in the record, and the latest counts
set_by (Some watched) w = left w (with_watch w.state 1)
set_by (Some unwatched) w = left w (with_watch w.state 2)
set_by (Some (priority z)) w = left w (with_priority w.state (from_signed z))

-- ---- any key

-- what a change leaves, with the escape setting as it was
abbrev pub leaves : Work → Checked Refusal State → Checked Refusal Work
leaves w (refused f) = refused f
leaves w (ok s) = ok (left w s)

-- what is assigned to a closed key is not looked at
unfoldable pub assigned : Key → Device → ℕ → Pair → Work → Checked Refusal Work
assigned SYMLINK d place p w = elim w.state.closed.links [ true ↦ ok w | false ↦ leaves w (linked d place p w) ]
assigned TAG d place p w = elim w.state.closed.tags [ true ↦ ok w | false ↦ leaves w (tagged p w.state) ]
assigned RUN d place p w = elim w.state.closed.runs [ true ↦ ok w | false ↦ leaves w (queued place p w.state) ]
assigned OWNER d place p w = elim w.state.closed.owner [ true ↦ ok w | false ↦ leaves w (owned d place p w.state) ]
assigned GROUP d place p w = elim w.state.closed.group [ true ↦ ok w | false ↦ leaves w (grouped d place p w.state) ]
assigned MODE d place p w = elim w.state.closed.mode [ true ↦ ok w | false ↦ leaves w (moded d place p w.state) ]
assigned ENV d place p w = leaves w (valued w.escape p w.state)
assigned OPTIONS d place p w = ok (set_by (setting_of p.value) w)
assigned ACTION d place p w = ok w
assigned DEVPATH d place p w = ok w
assigned KERNEL d place p w = ok w
assigned KERNELS d place p w = ok w
assigned SUBSYSTEM d place p w = ok w
assigned SUBSYSTEMS d place p w = ok w
assigned DRIVER d place p w = ok w
assigned DRIVERS d place p w = ok w
assigned ATTR d place p w = ok w
assigned ATTRS d place p w = ok w
assigned LABEL d place p w = ok w
assigned GOTO d place p w = ok w
assigned PROGRAM d place p w = ok w
assigned RESULT d place p w = ok w

-- one pair of a rule that matched
unfoldable pub assign_pair : Device → ℕ → Pair → Work → Checked Refusal Work
assign_pair d place p w = elim (is_match p.op) [ true ↦ ok w | false ↦ assigned p.key d place p w ]

-- left to right
unfoldable pub assign_all : Device → ℕ → Rule → Work → Checked Refusal Work
assign_all d place [] w = ok w
assign_all d place (p ∷ ps) w = assign_pair d place p w >>= λ w'. assign_all d place ps w'
