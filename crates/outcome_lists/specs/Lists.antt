-- A row emptied, and a run by its parts.
-- Assumes nothing.
use Rattle.std.specs.Prelude.{ℕ, Bool, List, []}
use Rattle.outcome.specs.State.{Run, State}
use Rattle.outcome.specs.Change.{with_links, with_properties, with_tags, with_runs}
use Rattle.outcome_target.specs.declared.Section.{Section}
use Rattle.outcome_target.specs.declared.Section.TheVariants.{Links, Properties, Tags, Runs}

abbrev pub emptied : Section → State → State
emptied Links s = with_links s []
emptied Properties s = with_properties s []
emptied Tags s = with_tags s []
emptied Runs s = with_runs s []

abbrev pub run_of : Bool → ℕ → List ℕ → Run
run_of b p x = record { builtin = b; place = p; template = x }
