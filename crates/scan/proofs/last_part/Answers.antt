-- `scan::last_part` meets its contract.
use Rattle.scan.proofs.Trims.{part_from}
use Rattle.scan.proofs.last_part.Goals as goal

pub returns : goal.returns
returns c = (c.run_start.ensures.within, part_from c.args.b c.args.s.now c.run_start.result c.run_start.ensures)
