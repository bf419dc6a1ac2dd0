-- What an assignment to ENV leaves.
-- Assumes nothing.
use Rattle.std.specs.Prelude.{ℕ, ◌≡◌, List, Result}
use Rattle.rules.specs.Pair.{Pair}
use Rattle.outcome_target.specs.declared.Layout.{Layout}
use Rattle.engine.specs.Assign as assign
use Rattle.engine.specs.Assign.{valued}
use Rattle.records.specs.Records.{Changes}
use Rattle.refusals.specs.declared.Refusal.{Refusal as Refused}
use Rattle.assign_env.specs.declared.Escape.{Escape}
use Rattle.assign_env.specs.declared.Escape.TheVariants.{Unset, AsIs, Replaced}

abbrev pub escape_of : Escape → assign.Escape
escape_of Unset = assign.unset
escape_of AsIs = assign.as_is
escape_of Replaced = assign.replaced

abbrev pub EnvAssigned : assign.Escape → List ℕ → List ℕ → List ℕ → Layout → List ℕ → Result Layout Refused → Type 0
EnvAssigned e k v t lay t' r = (p : Pair) → p.argument ≡ k → p.value ≡ v → Changes (valued e p) t lay t' r
