use mathlib.Core.Path.{sym, ◌∙◌}
use native.Mathlib.Omega.{arith}
use Rattle.content.proofs.Modes.{mode-empty, mode-long, mode-start, mode-end, mode-fits}
use Rattle.content.proofs.mode_of.Goals as goal

pub returns-in_default : goal.returns-in_default
returns-in_default c = (sym (mode-empty c.args.x.now (omega arith)), tt)

pub returns-in_default-2 : goal.returns-in_default-2
returns-in_default-2 c = (sym (mode-long c.args.x.now (omega arith)), tt)

pub loop-b-init : goal.loop-b-init
loop-b-init c = (omega arith, omega arith, mode-start c.args.x.now (omega arith) (omega arith))

pub returns : goal.returns
returns c =
    let l = c.loop-b in
    (sym (l.invariant.2 ∙ mode-end c.args.x.now l.mode l.b-index (omega arith)), mode-fits l.mode l.b-index l.invariant.1 (omega arith))
