-- `spillfinch::spillfinch_older` meets its contract.
use Rattle.spillfinch.proofs.Laws.{gives}
use Rattle.spillfinch.proofs.spillfinch_older.Goals as goal

pub returns : goal.returns
returns c = gives c.older.result c.put_answer.new.answer c.older.new.target _ c.older.ensures c.put_answer.ensures
