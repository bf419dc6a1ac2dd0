-- `keys::row_at` meets its contract.
use Rattle.keys.proofs.Table.{table, row_is, name_short}
use Rattle.keys.proofs.row_at.Goals as goal

pub returns : goal.returns
unfolding table
returns c = (row_is c.args.k _ c.requires, name_short c.args.k _ c.requires)
