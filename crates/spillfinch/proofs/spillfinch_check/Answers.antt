-- `spillfinch::spillfinch_check` meets its contract.
use Rattle.spillfinch.specs.Exports.{numbers}
use mathlib.Core.Path.{ap, ◌∙◌}
use Rattle.spillfinch.proofs.spillfinch_check.Goals as goal

pub returns : goal.returns
returns c = c.put_answer.ensures ∙ ap numbers c.check.ensures
