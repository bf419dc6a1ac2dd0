-- `spillfinch::spillfinch_contest` meets its contract.
use Rattle.spillfinch.proofs.Laws.{set_gives}
use Rattle.spillfinch.proofs.spillfinch_contest.Goals as goal

pub returns : goal.returns
returns c = set_gives c.contest.result c.put_set_answer.new.answer c.contest.new.target _ c.contest.ensures c.put_set_answer.ensures
