-- `plan_due::plan_naming` meets its contract.
use mathlib.Core.Bool.{Bool, ◌&&◌}
use mathlib.Core.Path.{sym, ap, ◌∙◌}
use Rattle.plan.specs.Plan.{plan_path, plan_link}
use Rattle.plan_due.proofs.plan_naming.Goals as goal

pub returns-then-plan_path : goal.returns-then-plan_path
returns-then-plan_path c =
    λ d e. c.plan_link.ensures ∙ sym (ap (λ (t : Bool). t && plan_link c.args.link.now) (ap plan_path (sym (c.event_path.ensures d e)) ∙ sym c.plan_path.ensures ∙ c.if-plan_path.true))

pub returns-else-plan_path : goal.returns-else-plan_path
returns-else-plan_path c =
    λ d e. c.if-plan_path.false ∙ sym (ap (λ (t : Bool). t && plan_link c.args.link.now) (ap plan_path (sym (c.event_path.ensures d e)) ∙ sym c.plan_path.ensures ∙ c.if-plan_path.false))
