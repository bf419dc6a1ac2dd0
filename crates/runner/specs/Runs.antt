-- What running one rule, and all rules, of a table leaves.
-- Assumes nothing.
use Rattle.std.specs.Prelude.{ℕ, ◌+◌, ◌-◌, ◌*◌, ◌≤◌, ◌<◌, ◌≡◌, List, eqb, length, get_or}
use Rattle.std.specs.Prelude.{Some, Result, Ok, Err}
use Rattle.lists.specs.Lists.{pick}
use Rattle.lists.specs.Checked.{refused, ok, line}
use Rattle.lists.specs.Sizes.{most_rules, most_chain}
use Rattle.refusals.specs.Refusals.{refusal_of}
use Rattle.refusals.specs.declared.Refusal.{Refusal}
use Rattle.refusals.specs.declared.LineRefusal.{LineRefusal}
use Rattle.device.specs.Device.{Device}
use Rattle.device_lookup.specs.declared.Chain.{Chain}
use Rattle.outcome.specs.State.{State}
use Rattle.outcome_target.specs.declared.Layout.{Layout}
use Rattle.text.specs.Running.{Ran, Halt, more, next, run_from}
use Rattle.sheet.specs.Sheet.{Sheet, decode}
use Rattle.engine.specs.Operations.{engine}
use Rattle.records.specs.Records.{Denotes}
use Rattle.table.specs.Table.{rules_from}
use Rattle.jumps.specs.Jumps.{Jumps}
use Rattle.assignment.specs.Assignment.{RuleRows}
use Rattle.runner.specs.declared.RuleRan.{RuleRan}
use Rattle.runner.specs.declared.Ended.{Ended}

-- a table of n rules that may run
pub record Runnable (v r t js : List ℕ) (n : ℕ) : Type 0 where
  pub few : n ≤ most_rules
  pub rules_room : n * 4 ≤ length t
  pub jumps_room : n ≤ length js
  pub rules : (i : ℕ) → i < n → RuleRows v r (get_or t (i * 4 + 1) 0) (get_or t (i * 4 + 2) 0)
  pub jumps : Jumps v r t n js n

-- the rule behind the i-th, if it matched and its jump is k
abbrev pub behind_of : ℕ → ℕ → ℕ
behind_of k i = pick (eqb k 0) (i + 1) (k - 1)

-- what the rules from the i-th on give
abbrev pub runs : List ℕ → List ℕ → List ℕ → ℕ → Sheet → Device → State → ℕ → Ran State
runs v r t n a d s i = run_from (engine a) d next s (rules_from v r t i (n - i))

-- ---- one rule

abbrev pub RuleSays : List ℕ → List ℕ → List ℕ → ℕ → ℕ → List ℕ → Chain → List ℕ → List ℕ → Layout → List ℕ → Result RuleRan Refusal → Type 0
RuleSays v r t n i dev places sheet x lay x' (Ok o) =
    (i < o.next) × (o.next ≤ n) × (o.tried ≤ most_chain)
    × ((a : Sheet) → decode sheet ≡ Some a → (d : Device) (s : State) → Denotes dev places x lay d s → (s' : State) × Denotes dev places x' o.layout d s' × (runs v r t n a d s i ≡ more 1 o.tried (runs v r t n a d s' o.next)))
RuleSays v r t n i dev places sheet x lay x' (Err f) =
    (a : Sheet) → decode sheet ≡ Some a → (d : Device) (s : State) → Denotes dev places x lay d s → runs v r t n a d s i ≡ refused (line (get_or t (i * 4) 0) (refusal_of f))

pub record RuleRuns (v r t : List ℕ) (n i : ℕ) (dev : List ℕ) (places : Chain) (sheet x : List ℕ) (lay : Layout) (x' : List ℕ) (o : Result RuleRan Refusal) : Type 0 where
  pub says : RuleSays v r t n i dev places sheet x lay x' o
  pub length : length x' ≡ length x

-- ---- all rules

abbrev pub Says : List ℕ → Chain → Device → List ℕ → Result Ended LineRefusal → Ran State → Type 0
Says dev places d x' (Ok e) c = (h : Halt State) × (c ≡ ok h) × Denotes dev places x' e.layout d h.state × (e.visited ≡ h.visited) × (e.tried ≡ h.tried)
Says dev places d x' (Err f) c = c ≡ refused (line f.line (refusal_of f.refusal))

-- the counts and the line are small
abbrev pub Small : Result Ended LineRefusal → Type 0
Small (Ok e) = (e.visited < 65536) × (e.tried < 65536)
Small (Err f) = f.line < 65536

pub record Runs (v r t : List ℕ) (n : ℕ) (dev : List ℕ) (places : Chain) (sheet x : List ℕ) (lay : Layout) (x' : List ℕ) (o : Result Ended LineRefusal) : Type 0 where
  pub says : (a : Sheet) → decode sheet ≡ Some a → (d : Device) (s : State) → Denotes dev places x lay d s → Says dev places d x' o (run_from (engine a) d next s (rules_from v r t 0 n))
  pub small : Small o
  pub length : length x' ≡ length x
