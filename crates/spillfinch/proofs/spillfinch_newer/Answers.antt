-- `spillfinch::spillfinch_newer` meets its contract.
use Rattle.spillfinch.proofs.Laws.{gives}
use Rattle.spillfinch.proofs.spillfinch_newer.Goals as goal

pub returns : goal.returns
returns c = gives c.newer.result c.put_answer.new.answer c.newer.new.target _ c.newer.ensures c.put_answer.ensures
