-- The text of a template beside a device and a state.
-- Assumes nothing.
use Rattle.std.specs.Prelude.{ℕ, Bool, List, Option}
use Rattle.device.specs.Device.{Device}
use Rattle.device_lookup.specs.declared.Chain.{Chain}
use Rattle.outcome.specs.State.{State}
use Rattle.outcome_target.specs.declared.Layout.{Layout}
use Rattle.engine.specs.Substitute.{filled}
use Rattle.engine.specs.Assign.{source_of}
use Rattle.substitution.specs.Turns.{Filled}
use Rattle.records.specs.Records.{Denotes}

abbrev pub FilledBeside : List ℕ → List ℕ → Chain → ℕ → List ℕ → Layout → Bool → List ℕ → Option ℕ → List ℕ → Type 0
FilledBeside template dev places place t lay spaceless out r out' =
    (d : Device) (s : State) → Denotes dev places t lay d s → Filled (filled spaceless (source_of d place s) template) out r out'
