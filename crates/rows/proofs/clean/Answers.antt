-- `rows::clean` meets its contract.
-- Assumes nothing.
use Rattle.std.proofs.Common.{◌∙◌, ap, not}
use Rattle.rows.proofs.Content.{no_nul}
use Rattle.rows.proofs.clean.Goals as goal

pub returns : goal.returns
returns c = ap not c.contains.ensures.value ∙ no_nul c.args.s.now
