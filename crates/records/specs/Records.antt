-- A device record and the target beside what they hold, and what a change of the target leaves.
-- Assumes nothing.
use Rattle.std.specs.Prelude.{ℕ, ◌≡◌, List, length}
use Rattle.std.specs.Prelude.{Some, Result, Ok, Err}
use Rattle.lists.specs.Checked.{Checked, refused, ok}
use Rattle.lists.specs.Refusal as refusal
use Rattle.refusals.specs.Refusals.{refusal_of}
use Rattle.refusals.specs.declared.Refusal.{Refusal}
use Rattle.device.specs.Device.{Device, chain, decode}
use Rattle.device_lookup.specs.declared.Chain.{Chain}
use Rattle.device_lookup.specs.Lookup.{Chained}
use Rattle.outcome.specs.State.{State}
use Rattle.outcome_target.specs.declared.Layout.{Layout}
use Rattle.outcome_target.specs.Held.{Held}

-- the record dev holds the device d, and the target t the state s beside it
pub record Denotes (dev : List ℕ) (places : Chain) (t : List ℕ) (lay : Layout) (d : Device) (s : State) : Type 0 where
  pub device : decode dev ≡ Some d
  pub chained : Chained d places
  pub held : Held (length (chain d)) t lay s

abbrev pub Ready : List ℕ → Chain → List ℕ → Layout → Type 0
Ready dev places t lay = (d : Device) × (s : State) × Denotes dev places t lay d s

-- an answer beside what the definition gives; a refused change leaves nothing of use in the target
abbrev pub Says : ℕ → List ℕ → Result Layout Refusal → Checked refusal.Refusal State → Type 0
Says n t (Ok lay) c = (s : State) × (c ≡ ok s) × Held n t lay s
Says n t (Err f) c = c ≡ refused (refusal_of f)

-- a change of the state
abbrev pub Changes : (State → Checked refusal.Refusal State) → List ℕ → Layout → List ℕ → Result Layout Refusal → Type 0
Changes op t lay t' r = (n : ℕ) (s : State) → Held n t lay s → Says n t' r (op s)

-- a change of the state beside a device
abbrev pub ChangesBeside : (Device → State → Checked refusal.Refusal State) → List ℕ → Chain → List ℕ → Layout → List ℕ → Result Layout Refusal → Type 0
ChangesBeside op dev places t lay t' r = (d : Device) (s : State) → Denotes dev places t lay d s → Says (length (chain d)) t' r (op d s)
