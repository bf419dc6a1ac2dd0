-- `claims::priority_of` meets its contract.
use lib.IntN.{ℤ}
use mathlib.Core.Path.{ap, ◌∙◌}
use mir.Syntax.{w32}
use mir.Val.{to_z, of_z}
use native.Mathlib.Omega.{arith}
use Rattle.bits.specs.Bits.{number_at}
use Rattle.bits.specs.Signed.{to_signed}
use Rattle.claims.proofs.Links.{signed_back}
use Rattle.claims.proofs.priority_of.Goals as goal

pub returns : goal.returns
returns c =
    let entry = c.args in
    let to-signed = c.to_signed in
    let field = c.field in
    let x = number_at entry.rec.now 35 32 in
    ap (λ (z : ℤ). to_z w32 (of_z w32 z)) (to-signed.ensures ∙ ap to_signed field.ensures.0) ∙ signed_back x (omega (arith, field.ensures.0, field.ensures.1))
