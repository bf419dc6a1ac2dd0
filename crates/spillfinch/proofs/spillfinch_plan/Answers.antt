-- `spillfinch::spillfinch_plan` meets its contract.
use Rattle.spillfinch.proofs.Laws.{set_gives}
use Rattle.spillfinch.proofs.spillfinch_plan.Goals as goal

pub returns : goal.returns
returns c =
    let plan = c.plan in
    let put-set-answer = c.put_set_answer in
    set_gives plan.result put-set-answer.new.answer plan.new.target _ plan.ensures put-set-answer.ensures
