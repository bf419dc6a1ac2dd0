-- `match_values::value_holds` meets its contract.
use mathlib.Core.Path.{ap, ◌∙◌}
use Rattle.keys.specs.Table.{operator_of}
use Rattle.engine.specs.Match.{judged}
use Rattle.match_values.proofs.value_holds.Goals as goal

pub returns : goal.returns
returns c = c.judge.ensures ∙ ap (judged (operator_of c.args.operator)) c.text_matches.ensures
