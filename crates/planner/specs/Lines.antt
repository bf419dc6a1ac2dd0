-- A line of a plan.
-- Assumes nothing.
use Rattle.std.specs.Prelude.{ℕ, List, [], ◌∷◌, ◌++◌}
use Rattle.plan.specs.Plan.{plan_rule}

abbrev pub plan_line : List ℕ → List ℕ → List ℕ
plan_line path link = plan_rule path link ++ (10 ∷ [])
