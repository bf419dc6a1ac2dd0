-- `text_check::check_lent` meets its contract.
use mathlib.Core.List.{[]}
use mathlib.Core.Path.{refl, ◌∙◌}
use native.Mathlib.Omega.{arith}
use Rattle.text_check.proofs.Laws.{checked}
use Rattle.text_check.proofs.check_lent.Goals as goal

pub refused-requires : goal.refused-requires
refused-requires c = omega (arith, c.in-Err.ensures.0)

pub returns-in-Ok : goal.returns-in-Ok
returns-in-Ok c = c.accepted.ensures 0 [] refl ∙ checked c.args.text.now _ c.in-Ok.ensures.is

pub returns-in-Err : goal.returns-in-Err
returns-in-Err c = c.refused.ensures 0 ∙ checked c.args.text.now _ c.in-Err.ensures.1
