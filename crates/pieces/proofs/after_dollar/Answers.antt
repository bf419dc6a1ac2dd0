-- `pieces::after_dollar` meets its contract.
use mathlib.Core.Path.{refl, sym, ◌∙◌}
use native.Mathlib.Omega.{arith}
use Rattle.lists.specs.Quoted.{bytes}
use Rattle.lists.specs.Bytes.{starts}
use Rattle.template.specs.Template.{names, name_in}
use Rattle.pieces.specs.declared.Piece.TheVariants.{Dollar}
use Rattle.pieces.proofs.Names.{one_byte, no_name}
use Rattle.pieces.proofs.after_dollar.Goals as goal

pub returns-in-36 : goal.returns-in-36
unfolding names name_in starts bytes
returns-in-36 c =
    let args = c.args in
    one_byte args.template.now args.at names Dollar (sym c.byte_at.ensures ∙ c.in-36.is) (omega arith) tt refl

pub returns-in_default : goal.returns-in_default
returns-in_default c =
    let entry = c.args in
    let args = entry in
    (no_name args.template.now args.at c.byte_at.ensures c.in_default.in_default-own.rest.1 (λ h l. omega arith), tt)

pub returns-in_default-2 : goal.returns-in_default-2
returns-in_default-2 c =
    let entry = c.args in
    let byte_at = c.byte_at in
    let match = c.in_default in
    let args = entry in
    (no_name args.template.now args.at byte_at.ensures match.in_default-own.rest.1 (λ h l. omega arith), tt)
