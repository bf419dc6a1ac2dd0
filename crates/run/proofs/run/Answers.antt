-- `run::run` meets its contract.
use mathlib.Core.Path.{sym, ◌∙◌}
use native.Mathlib.Omega.{arith}
use lib.ListN.{length}
use Rattle.run.proofs.Laws.{run_short}
use Rattle.run.proofs.run.Goals as goal

pub returns-then-target-lt-FULLEST : goal.returns-then-target-lt-FULLEST
returns-then-target-lt-FULLEST c =
    let a = c.args in
    c.refuse.ensures ∙ sym (run_short a.text.now a.device.now a.outcome.now a.sheet.now (length a.target.now) (omega (arith, c.if-target-lt-FULLEST.true)))
