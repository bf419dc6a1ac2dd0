-- `spillfinch::spillfinch_run` meets its contract.
use Rattle.spillfinch.proofs.Laws.{gives}
use Rattle.spillfinch.proofs.spillfinch_run.Goals as goal

pub returns : goal.returns
returns c = gives c.run.result c.put_answer.new.answer c.run.new.target _ c.run.ensures c.put_answer.ensures
