-- `plan_rows::check_wishes` meets its contract.
use mathlib.Core.Path.{◌∙◌}
use Rattle.plan.specs.Operations.{most_wishes, one_wish}
use Rattle.set_rows.proofs.Walk.{set-skipped}
use Rattle.plan_rows.proofs.check_wishes.Goals as goal

pub returns : goal.returns
returns c = c.is_set.ensures ∙ set-skipped one_wish 1 most_wishes c.args.set.now
