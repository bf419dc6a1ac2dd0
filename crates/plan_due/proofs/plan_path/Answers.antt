-- `plan_due::plan_path` meets its contract.
use mathlib.Core.Bool.{Bool, ◌&&◌}
use mathlib.Core.Path.{sym, ap, ◌∙◌}
use borrow.Author.Tests.{le-leb, lt-leb}
use lib.ListN.{length}
use Rattle.lists.specs.Lists.{all}
use Rattle.plan.specs.Plan.{most_plan_path, plan_byte}
use native.Mathlib.Omega.{arith}
use Rattle.plan_due.proofs.plan_path.Goals as goal

pub returns-then-path-le-MOST_PATH : goal.returns-then-path-le-MOST_PATH
returns-then-path-le-MOST_PATH c =
    let path = c.args.path.now in
    c.all_fair.ensures ∙ sym (ap (λ (t : Bool). t && all plan_byte path) (le-leb (length path) most_plan_path (omega arith)))

pub returns-else-path-le-MOST_PATH : goal.returns-else-path-le-MOST_PATH
returns-else-path-le-MOST_PATH c =
    let path = c.args.path.now in
    let long = lt-leb (length path) most_plan_path (omega arith) in
    long ∙ sym (ap (λ (t : Bool). t && all plan_byte path) long)
