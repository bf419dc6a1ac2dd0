-- `spillfinch::spillfinch_strike` meets its contract.
use Rattle.spillfinch.proofs.Laws.{strike-gives}
use Rattle.spillfinch.proofs.spillfinch_strike.Goals as goal

pub returns : goal.returns
returns c =
    let strike = c.strike-struck in
    strike-gives strike.result c.put_counted.new.answer strike.new.target strike.new.list _ strike.ensures c.put_counted.ensures
