-- `scan::digits_start` meets its contract.
use Rattle.scan.proofs.Trims.{digits_from}
use Rattle.scan.proofs.digits_start.Goals as goal

pub returns : goal.returns
returns c = (c.run_start.ensures.within, digits_from c.args.s.now c.run_start.result c.run_start.ensures)
