-- `plan_due::all_fair` meets its contract.
use mathlib.Core.Path.{◌≡◌}
use lib.ListN.{drop}
use Rattle.lists.specs.Lists.{all}
use Rattle.plan_due.specs.Due.{is_fair}
use Rattle.plan_due.proofs.all_fair.Given as goal

abbrev pub invariant-loop-b : goal.invariant-loop-b
invariant-loop-b l = all (is_fair l.marks) (drop l.b-index l.x) ≡ all (is_fair l.marks) l.x
