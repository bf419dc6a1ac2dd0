-- `spillfinch::spillfinch_run_each` meets its contract.
use Rattle.spillfinch.proofs.Laws.{each_gives}
use Rattle.spillfinch.proofs.spillfinch_run_each.Goals as goal

pub returns : goal.returns
returns c =
    let run-each = c.run_each in
    each_gives run-each.result c.put_set_answer.new.answer run-each.new.targets run-each.new.answers _ run-each.ensures c.put_set_answer.ensures
