-- `spillfinch::spillfinch_fresh` meets its contract.
use Rattle.spillfinch.proofs.Laws.{gives}
use Rattle.spillfinch.proofs.spillfinch_fresh.Goals as goal

pub returns : goal.returns
returns c = gives c.fresh.result c.put_answer.new.answer c.fresh.new.target _ c.fresh.ensures c.put_answer.ensures
