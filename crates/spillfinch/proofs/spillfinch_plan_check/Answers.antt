-- `spillfinch::spillfinch_plan_check` meets its contract.
use mathlib.Core.Path.{ap, ◌∙◌}
use Rattle.spillfinch.specs.Exports.{set_numbers}
use Rattle.spillfinch.proofs.spillfinch_plan_check.Goals as goal

pub returns : goal.returns
returns c =
    let put-set-answer = c.put_set_answer in
    let check = c.check in
    put-set-answer.ensures ∙ ap set_numbers check.ensures
