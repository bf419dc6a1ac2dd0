-- Document 02, Item 14, of the exported functions: what is wanted of what calls of `spillfinch_plan_check` and `spillfinch_plan` write.
-- Assumes nothing.
use Rattle.std.specs.Prelude.{ℕ, ◌≡◌, ◌↔◌, true, false, List, [], ◌∷◌, take}
use Rattle.std.specs.Prelude.{Some}
use Rattle.lists.specs.Lists.{All}
use Rattle.lists.specs.Checked.{ok}
use Rattle.lists.specs.Sizes.{fullest_outcome}
use Rattle.outcome.specs.State.{State}
use Rattle.engine.specs.Operations.{decode_for, fresh}
use Rattle.plan.specs.Plan.{Naming, due}
use Rattle.plan.specs.Operations as plan
use Rattle.spillfinch.specs.Exports.{Gives, RunGives, PlanCheckGives, PlanGives}
use Rattle.spillfinch.specs.Joined.{number_in, used_in}
use Rattle.spillfinch.specs.Contested.{count_in}

-- ---- the checker

-- calls that run a text on a device from its fresh record: of `spillfinch_fresh`, then of `spillfinch_run` with a sheet of no replies
pub record Calls (text dev : List ℕ) : Type 0 where
  pub fresh_written : List ℕ
  pub start : List ℕ
  pub begins : Gives fresh_written start (fresh dev fullest_outcome)
  pub written : List ℕ
  pub target : List ℕ
  pub runs : RunGives text dev (take (used_in fresh_written) start) (0 ∷ []) fullest_outcome written target

-- the run is not refused, and leaves the device its wanted link and no other
pub record Names (text : List ℕ) (n : Naming) (c : Calls text n.bytes_lent) : Type 0 where
  pub accepted : number_in c.written ≡ 0
  pub state : State
  pub left : decode_for n.device (take (used_in c.written) c.target) ≡ Some state
  pub linked : state.links ≡ n.link ∷ []

-- of a call that is not refused: the verdict is 1 exactly where such calls do so for every device of the set
pub record Checks (set text written : List ℕ) : Type 0 where
  pub namings : List Naming
  pub held : plan.namings set ≡ ok namings
  pub exact : (count_in written ≡ 1) ↔ All (λ (n : Naming). (c : Calls text n.bytes_lent) → Names text n c) namings

-- ---- the planner

-- of a call that is not refused
pub record Plans (set written target : List ℕ) : Type 0 where
  pub namings : List Naming
  pub held : plan.namings set ≡ ok namings
  -- there is a plan where one is due, and no bytes of one where none is
  pub planned : due namings ≡ true → count_in written ≡ 1
  pub none_else : due namings ≡ false → (count_in written ≡ 0) × (used_in written ≡ 0)
  -- a call of the checker for the same set accepts the plan
  pub accepted : count_in written ≡ 1 → (told : List ℕ) → PlanCheckGives set (take (used_in written) target) told → (number_in told ≡ 0) × (count_in told ≡ 1)

-- ---- of every such call

pub record Planned : Type 0 where
  pub checks : (set text written : List ℕ) → PlanCheckGives set text written → number_in written ≡ 0 → Checks set text written
  pub plans : (set : List ℕ) (room : ℕ) (written target : List ℕ) → PlanGives set room written target → number_in written ≡ 0 → Plans set written target
