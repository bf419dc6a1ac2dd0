-- What one rule makes of the records.
-- Assumes nothing.
use Rattle.std.specs.Prelude.{ℕ, ◌-◌, ◌≤◌, ◌≡◌, true, false, List, length}
use Rattle.std.specs.Prelude.{Some, Result, Ok, Err}
use Rattle.lists.specs.Checked.{Checked, refused, ok}
use Rattle.lists.specs.Refusal as refusal
use Rattle.lists.specs.Sizes.{most_chain}
use Rattle.refusals.specs.Refusals.{refusal_of}
use Rattle.refusals.specs.declared.Refusal.{Refusal}
use Rattle.table.specs.Table.{pairs_from}
use Rattle.device.specs.Device.{Device}
use Rattle.device_lookup.specs.declared.Chain.{Chain}
use Rattle.outcome.specs.State.{State}
use Rattle.outcome_target.specs.declared.Layout.{Layout}
use Rattle.sheet.specs.Sheet.{Sheet, decode}
use Rattle.text.specs.Engine as text
use Rattle.engine.specs.Match.{tried}
use Rattle.engine.specs.Step as engine
use Rattle.engine.specs.Step.{step_at}
use Rattle.records.specs.Records.{Denotes}
use Rattle.step.specs.declared.Stepped.{Stepped}
use Rattle.step.specs.declared.Stepped.TheVariants.{Missed, Failed, Left}

-- the answer of a step beside what the definition gives, and the devices tried; a refused step leaves nothing of use in the target
abbrev pub Says : List ℕ → Chain → Layout → Device → State → List ℕ → Result Stepped Refusal → Checked refusal.Refusal (text.Stepped State) → ℕ → Type 0
Says dev places lay d s t' (Ok (Missed k)) c n = (c ≡ ok (text.went s false)) × Denotes dev places t' lay d s × (k ≡ n)
Says dev places lay d s t' (Ok (Failed lay' k)) c n = (s' : State) × (c ≡ ok (text.went s' false)) × Denotes dev places t' lay' d s' × (k ≡ n)
Says dev places lay d s t' (Ok (Left lay' k)) c n = (s' : State) × (c ≡ ok (text.went s' true)) × Denotes dev places t' lay' d s' × (k ≡ n)
Says dev places lay d s t' (Err f) c n = c ≡ refused (refusal_of f)

-- no more devices than there are
abbrev pub Few : Result Stepped Refusal → Type 0
Few (Ok (Missed k)) = k ≤ most_chain
Few (Ok (Failed lay k)) = k ≤ most_chain
Few (Ok (Left lay k)) = k ≤ most_chain
Few (Err f) = Unit {0}

-- a rule whose keys other than PROGRAM and RESULT hold at a place
abbrev pub StepsAt : List ℕ → List ℕ → ℕ → ℕ → List ℕ → Chain → List ℕ → List ℕ → Layout → ℕ → List ℕ → Result Stepped Refusal → Type 0
StepsAt v r from to dev places sheet t lay place t' x =
    (a : Sheet) → decode sheet ≡ Some a → (d : Device) (s : State) → Denotes dev places t lay d s → Says dev places lay d s t' x (step_at (Some place) a d (pairs_from v r from (to - from)) s) place

-- one rule, by its rows
pub record Steps (v r : List ℕ) (from to : ℕ) (dev : List ℕ) (places : Chain) (sheet t : List ℕ) (lay : Layout) (t' : List ℕ) (x : Result Stepped Refusal) : Type 0 where
  pub says : (a : Sheet) → decode sheet ≡ Some a → (d : Device) (s : State) → Denotes dev places t lay d s
      → Says dev places lay d s t' x (engine.step a d (pairs_from v r from (to - from)) s) (tried d (pairs_from v r from (to - from)) s)
  pub few : Few x
  pub length : length t' ≡ length t
