-- `scan::trimmed_len` meets its contract.
use Rattle.lists.specs.Bytes.{is_space}
use Rattle.lists.specs.Runs.{trim}
use Rattle.scan.proofs.Trims.{trims_spaces, trimmed}
use Rattle.scan.proofs.trimmed_len.Goals as goal

pub returns : goal.returns
returns c = (c.run_start.ensures.within, trimmed is_space trim trims_spaces c.args.s.now c.run_start.result c.run_start.ensures)
