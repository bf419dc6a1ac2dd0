-- `write::write` meets its contract.
use mathlib.Core.Path.{sym, ap, ◌∙◌}
use native.Mathlib.Omega.{arith}
use lib.ListN.{length}
use Rattle.write.proofs.Laws.{write_short}
use Rattle.answers.specs.Answers.{answered}
use Rattle.write.proofs.write.Goals as goal

pub returns-then-target-lt32768 : goal.returns-then-target-lt32768
returns-then-target-lt32768 c =
    let a = c.args in
    ap (answered c.refused.result) c.clear.ensures ∙ c.refused.ensures (length a.target.now) ∙ sym (write_short a.text.now (length a.target.now) (omega (arith, c.if-target-lt32768.true)))
