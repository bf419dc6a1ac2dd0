-- `outcome_readers::row_of` meets its contract.
use Rattle.outcome_readers.proofs.Rows.{row_stands}
use Rattle.outcome_readers.proofs.row_of.Goals as goal

pub returns : goal.returns
returns c = λ n s w. row_stands n c.args.t.now c.args.layout s w c.args.section (record { at = c.start_of.result; count = c.count_of.result }) c.start_of.ensures c.count_of.ensures.0
