-- `device_check::is_cut` meets its contract.
use Rattle.std.proofs.Common.{sym, ◌∙◌, arith, inl, inr}
use borrow.Author.Tests.{ne_eqb}
use Rattle.device_check.proofs.Paths.{cut_none, cut_short, cut_other, cut_same}
use Rattle.device_check.proofs.is_cut.Goals as goal

pub returns-then-n-eq0 : goal.returns-then-n-eq0
returns-then-n-eq0 c =
    let a = c.args in
    elim c.then-n-eq0.either [
      | inl h ↦ sym (cut_none a.parent.now a.child.now h)
      | inr h ↦ sym (cut_short a.parent.now a.child.now (omega arith) h.1)
    ]

pub returns-then-child-n-eq47 : goal.returns-then-child-n-eq47
returns-then-child-n-eq47 c =
    let a = c.args in
    c.same.ensures ∙ sym (cut_same a.parent.now a.child.now (omega arith) (omega arith) c.if-child-n-eq47.true)

pub returns-else-child-n-eq47 : goal.returns-else-child-n-eq47
returns-else-child-n-eq47 c =
    let a = c.args in
    ne_eqb _ 47 c.if-child-n-eq47.false ∙ sym (cut_other a.parent.now a.child.now (omega arith) (omega arith) c.if-child-n-eq47.false)
