-- `plan_due::plan_link` meets its contract.
use mathlib.Core.Bool.{Bool, ◌&&◌}
use mathlib.Core.Path.{sym, ap, ◌∙◌}
use Rattle.outcome.specs.Content.{ok_name}
use Rattle.plan_due.proofs.plan_link.Goals as goal

pub returns-then-all_fair : goal.returns-then-all_fair
returns-then-all_fair c = c.ok_name.ensures ∙ sym (ap (λ (t : Bool). t && ok_name c.args.link.now) (sym c.all_fair.ensures ∙ c.if-all_fair.true))

pub returns-else-all_fair : goal.returns-else-all_fair
returns-else-all_fair c = c.if-all_fair.false ∙ sym (ap (λ (t : Bool). t && ok_name c.args.link.now) (sym c.all_fair.ensures ∙ c.if-all_fair.false))
