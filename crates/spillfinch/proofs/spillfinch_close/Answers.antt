-- `spillfinch::spillfinch_close` meets its contract.
use Rattle.spillfinch.proofs.Laws.{gives}
use Rattle.spillfinch.proofs.spillfinch_close.Goals as goal

pub returns : goal.returns
returns c = gives c.close.result c.put_answer.new.answer c.close.new.target _ c.close.ensures c.put_answer.ensures
