-- What one assignment leaves, by its key.
-- Assumes nothing.
use Rattle.std.specs.Prelude.{ℕ, ◌≤◌, ◌≡◌, Bool, true, false, List, length}
use Rattle.std.specs.Prelude.{Option, None, Some, Result, Ok, Err}
use Rattle.lists.specs.Bytes.{same_bytes, ok_text}
use Rattle.lists.specs.Checked.{Checked, refused, ok}
use Rattle.lists.specs.Refusal as refusal
use Rattle.lists.specs.Quoted.{bytes}
use Rattle.lists.specs.Sizes.{most_tag, most_key}
use Rattle.template.specs.Template.{well_formed}
use Rattle.rules.specs.Key.{Key, ACTION, DEVPATH, KERNEL, KERNELS, SUBSYSTEM, SUBSYSTEMS, DRIVER, DRIVERS, ATTR, ATTRS, ENV, SYMLINK, TAG, OWNER, GROUP, MODE, RUN, LABEL, GOTO, OPTIONS, PROGRAM, RESULT, Op}
use Rattle.rules.specs.Pair.{Pair}
use Rattle.rules.specs.Setting.{setting_of}
use Rattle.refusals.specs.Refusals.{refusal_of}
use Rattle.refusals.specs.declared.Refusal.{Refusal}
use Rattle.outcome_target.specs.declared.Layout.{Layout}
use Rattle.device.specs.Device.{Device, chain}
use Rattle.device_lookup.specs.declared.Chain.{Chain}
use Rattle.outcome.specs.State.{State}
use Rattle.outcome_target.specs.Held.{Held}
use Rattle.outcome_fields.specs.Fields.{flag}
use Rattle.outcome_fields.specs.declared.Closable.{Closable}
use Rattle.outcome_fields.specs.declared.Closable.TheVariants as closable
use Rattle.engine.specs.Assign as assign
use Rattle.engine.specs.Assign.{linked, tagged, queued, owned, grouped, moded, set_by, assigned}
use Rattle.records.specs.Records.{Denotes, Says}
use Rattle.assign_env.specs.Env.{escape_of}
use Rattle.assign_env.specs.declared.Escape.{Escape}
use Rattle.assign_key.specs.declared.Work.{Work}
use Rattle.assign_key.specs.declared.Assignee.{Assignee}
use Rattle.assign_key.specs.declared.Assignee.TheVariants as assignee

abbrev pub assignee_of : Key → Option Assignee
assignee_of SYMLINK = Some (assignee.Closable closable.Links)
assignee_of TAG = Some (assignee.Closable closable.Tags)
assignee_of RUN = Some (assignee.Closable closable.Runs)
assignee_of OWNER = Some (assignee.Closable closable.Owner)
assignee_of GROUP = Some (assignee.Closable closable.Group)
assignee_of MODE = Some (assignee.Closable closable.Mode)
assignee_of ENV = Some assignee.Property
assignee_of OPTIONS = Some assignee.Option
assignee_of PROGRAM = None
assignee_of RESULT = None
assignee_of ACTION = None
assignee_of DEVPATH = None
assignee_of KERNEL = None
assignee_of KERNELS = None
assignee_of SUBSYSTEM = None
assignee_of SUBSYSTEMS = None
assignee_of DRIVER = None
assignee_of DRIVERS = None
assignee_of ATTR = None
assignee_of ATTRS = None
assignee_of LABEL = None
assignee_of GOTO = None

unfoldable pub builtin_in : List ℕ → Bool
unfolding bytes
builtin_in a = same_bytes a (bytes "builtin")

-- ---- what reading ensures of a value

abbrev pub Fits : Closable → List ℕ → Type 0
Fits closable.Links v = well_formed v ≡ true
Fits closable.Tags v = length v ≤ most_tag
Fits closable.Runs v = well_formed v ≡ true
Fits closable.Owner v = well_formed v ≡ true
Fits closable.Group v = well_formed v ≡ true
Fits closable.Mode v = well_formed v ≡ true

abbrev pub FitsTo : Option Assignee → List ℕ → List ℕ → Type 0
FitsTo (Some (assignee.Closable c)) a v = Fits c v
FitsTo (Some assignee.Property) a v = ok_text most_key a ≡ true
FitsTo (Some assignee.Option) a v = Unit {0}
FitsTo None a v = Unit {0}

abbrev pub FitsKey : Key → List ℕ → List ℕ → Type 0
FitsKey k a v = FitsTo (assignee_of k) a v

-- ---- what is left

-- a pair by its parts
pub record Is (o : Op) (a v : List ℕ) (p : Pair) : Type 0 where
  pub op : p.op ≡ o
  pub argument : p.argument ≡ a
  pub value : p.value ≡ v

abbrev pub work_of : State → Escape → assign.Work
work_of s e = record { state = s; escape = escape_of e }

-- a key that can be closed, and is not
abbrev pub open_change : Closable → Device → ℕ → Pair → assign.Work → Checked refusal.Refusal State
open_change closable.Links d place p w = linked d place p w
open_change closable.Tags d place p w = tagged p w.state
open_change closable.Runs d place p w = queued place p w.state
open_change closable.Owner d place p w = owned d place p w.state
open_change closable.Group d place p w = grouped d place p w.state
open_change closable.Mode d place p w = moded d place p w.state

abbrev pub closable_change : Bool → Closable → Device → ℕ → Pair → assign.Work → Checked refusal.Refusal State
closable_change true c d place p w = ok w.state
closable_change false c d place p w = open_change c d place p w

-- of the device and the state that the records hold
abbrev pub Beside : (Device → State → Type 0) → List ℕ → Chain → List ℕ → Work → Type 0
Beside P dev places t w = (d : Device) (s : State) → Denotes dev places t w.layout d s → P d s

abbrev pub ClosableChanged : Closable → Op → List ℕ → List ℕ → List ℕ → Chain → ℕ → List ℕ → Work → List ℕ → Result Layout Refusal → Type 0
ClosableChanged c o a v dev places place t w t' r =
    (p : Pair) → Is o a v p → Beside (λ d s. Says (length (chain d)) t' r (open_change c d place p (work_of s w.escape))) dev places t w

abbrev pub ClosableAssigned : Closable → Op → List ℕ → List ℕ → List ℕ → Chain → ℕ → List ℕ → Work → List ℕ → Result Layout Refusal → Type 0
ClosableAssigned c o a v dev places place t w t' r =
    (p : Pair) → Is o a v p → Beside (λ d s. Says (length (chain d)) t' r (closable_change (flag c s.closed) c d place p (work_of s w.escape))) dev places t w

abbrev pub OptionSet : List ℕ → List ℕ → Work → List ℕ → Work → Type 0
OptionSet v t w t' r = (n : ℕ) (s : State) → Held n t w.layout s
    → (s' : State) × (set_by (setting_of v) (work_of s w.escape) ≡ work_of s' r.escape) × Held n t' r.layout s'

-- an answer beside what the definition gives
abbrev pub WorkSays : ℕ → List ℕ → Result Work Refusal → Checked refusal.Refusal assign.Work → Type 0
WorkSays n t (Ok w) c = (s : State) × (c ≡ ok (work_of s w.escape)) × Held n t w.layout s
WorkSays n t (Err f) c = c ≡ refused (refusal_of f)

abbrev pub KeyAssigned : Key → Op → List ℕ → List ℕ → List ℕ → Chain → ℕ → List ℕ → Work → List ℕ → Result Work Refusal → Type 0
KeyAssigned k o a v dev places place t w t' r =
    (p : Pair) → Is o a v p → Beside (λ d s. WorkSays (length (chain d)) t' r (assigned k d place p (work_of s w.escape))) dev places t w
