-- `spillfinch::spillfinch_write` meets its contract.
use Rattle.spillfinch.proofs.Laws.{gives}
use Rattle.spillfinch.proofs.spillfinch_write.Goals as goal

pub returns : goal.returns
returns c = gives c.write.result c.put_answer.new.answer c.write.new.target _ c.write.ensures c.put_answer.ensures
