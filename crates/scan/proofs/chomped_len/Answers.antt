-- `scan::chomped_len` meets its contract.
use Rattle.lists.specs.Runs.{chomp}
use Rattle.scan.specs.Ends.{is_newline}
use Rattle.scan.proofs.Trims.{trims_newlines, trimmed}
use Rattle.scan.proofs.chomped_len.Goals as goal

pub returns : goal.returns
returns c = (c.run_start.ensures.within, trimmed is_newline chomp trims_newlines c.args.s.now c.run_start.result c.run_start.ensures)
