-- `run_each::refuse` meets its contract.
use mathlib.Core.Path.{ap, ◌∙◌}
use lib.ListN.{length}
use Rattle.set_answers.specs.Answers.{answered}
use Rattle.run_each.proofs.refuse.Goals as goal

pub returns : goal.returns
returns c =
    let the-refused = c.refused in
    let clear = c.clear in
    let entry = c.args in
    ap (answered the-refused.result) clear.ensures ∙ the-refused.ensures (length entry.targets.now)
