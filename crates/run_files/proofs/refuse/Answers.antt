-- `run_files::refuse` meets its contract.
use mathlib.Core.Path.{ap, ◌∙◌}
use lib.ListN.{length}
use Rattle.set_answers.specs.Answers.{answered}
use Rattle.run_files.proofs.refuse.Goals as goal

pub returns : goal.returns
returns c = ap (answered c.refused.result) c.clear.ensures ∙ c.refused.ensures (length c.args.t.now)
