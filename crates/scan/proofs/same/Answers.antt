-- `scan::same` meets its contract.
use mathlib.Core.Path.{◌∙◌}
use Rattle.scan.proofs.Equality.{same_pairs}
use Rattle.scan.proofs.same.Goals as goal

pub returns : goal.returns
returns c = c.eq.ensures ∙ same_pairs c.args.a.now c.args.b.now
