-- `lines::find_line` meets its contract.
use Rattle.lines.proofs.Held.{found-alone}
use Rattle.lines.proofs.find_line.Goals as goal

pub returns-in-Some : goal.returns-in-Some
returns-in-Some c = found-alone c.args.text.now c.args.copy.now c.args.at c.in-Some.end c.in-Some.ensures
