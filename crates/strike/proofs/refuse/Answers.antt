-- `strike::refuse` meets its contract.
use Rattle.answers.specs.Answers.{answered}
use lib.ListN.{length}
use mathlib.Core.Path.{ap, ◌∙◌}
use Rattle.strike.proofs.refuse.Goals as goal

pub returns : goal.returns
returns c =
    let a = c.args in
    let target = ap (answered c.refused.result) c.clear.ensures ∙ c.refused.ensures (length a.target.now) in
    λ i. record { target = target i; count = 0; list = c.clear_numbers.ensures i }
