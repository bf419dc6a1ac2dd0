-- `pieces::attr_at` meets its contract.
use native.Mathlib.Omega.{arith}
use Rattle.pieces.proofs.Braces.{Braced, text-found, text_missing}
use Rattle.template.specs.Template.{attr}
use Rattle.pieces.proofs.attr_at.Goals as goal

pub returns : goal.returns
returns c =
    let text = text-found attr c.args.template.now c.args.at c.in_ok-text.text c.in_ok-text.ensures.0 c.in_ok-text.ensures.1 in
    (text.read, record { forward = omega (arith, text.begins); inside = omega (arith, text.ends); text = omega (arith, text.ends) })

pub returns-in_err-text : goal.returns-in_err-text
returns-in_err-text c = rw c.from_residual.ensures (text_missing attr c.args.template.now c.args.at c.in_err-text.ensures.0, tt)
