-- `claims::claims_in` meets its contract.
use lib.IntN.{ℤ}
use mathlib.Core.Path.{ap, ◌∙◌}
use mir.Facts.{to_z-of_z}
use mir.Syntax.{w32}
use mir.Val.{to_z, of_z}
use native.Mathlib.Omega.{arith}
use Rattle.bits.specs.Signed.{to_signed}
use Rattle.claims.proofs.Links.{header_in, rank-fits, priority-is, claims_are}
use Rattle.lists.specs.Bytes.{Bytes}
use Rattle.claims.proofs.claims_in.Goals as goal

pub field-output-requires : goal.field-output-requires
field-output-requires c =
    let pre = c.requires in
    let entry = c.args in
    let shared-slice-known = c.type_inv.rec in
    let (n, s, e) = pre in
    let header = header_in n entry.rec.now s (λ i. (shared-slice-known i).fits) e in
    (omega arith, omega arith, header)

pub field-owner-requires : goal.field-owner-requires
field-owner-requires c =
    let pre = c.requires in
    let entry = c.args in
    let shared-slice-known = c.type_inv.rec in
    let (n, s, e) = pre in
    let header = header_in n entry.rec.now s (λ i. (shared-slice-known i).fits) e in
    (omega arith, omega arith, header)

pub field-group-requires : goal.field-group-requires
field-group-requires c =
    let pre = c.requires in
    let entry = c.args in
    let shared-slice-known = c.type_inv.rec in
    let (n, s, e) = pre in
    let header = header_in n entry.rec.now s (λ i. (shared-slice-known i).fits) e in
    (omega arith, omega arith, header)

pub field-requires : goal.field-requires
field-requires c =
    let pre = c.requires in
    let entry = c.args in
    let shared-slice-known = c.type_inv.rec in
    let (n, s, e) = pre in
    let header = header_in n entry.rec.now s (λ i. (shared-slice-known i).fits) e in
    (omega arith, omega arith, header)

pub priority_of-requires : goal.priority_of-requires
priority_of-requires c =
    let pre = c.requires in
    let entry = c.args in
    let shared-slice-known = c.type_inv.rec in
    let (n, s, e) = pre in
    let header = header_in n entry.rec.now s (λ i. (shared-slice-known i).fits) e in
    header

pub returns : goal.returns
returns c =
    let entry = c.args in
    let shared-slice-known = c.type_inv.rec in
    let priority-of = c.priority_of in
    let field = c.field-output in
    let field2 = c.field-owner in
    let field3 = c.field-group in
    let field4 = c.field in
    λ n s e.
    let by : Bytes entry.rec.now = λ i. (shared-slice-known i).fits in
    let priority = ap (λ (z : ℤ). to_z w32 (of_z w32 z)) (priority-of.ensures ∙ ap to_signed (priority-is n entry.rec.now s by e)) ∙ to_z-of_z (rank-fits n entry.rec.now s by e) in
    claims_are n entry.rec.now s by e _ (omega (arith, field.ensures.0, field2.ensures.0, field3.ensures.0)) field4.ensures.0 priority
