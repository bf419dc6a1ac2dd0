-- `set_rows::check_lent` meets its contract.
use mathlib.Core.Path.{◌∙◌}
use Rattle.set_rows.proofs.Walk.{set-skipped}
use Rattle.sets.specs.Lent.{most_records, one_lent}
use Rattle.set_rows.proofs.check_lent.Goals as goal

pub returns : goal.returns
returns c = c.is_set.ensures ∙ set-skipped one_lent 0 most_records c.args.set.now
