-- `device_check::check_member` meets its contract.
use mathlib.Core.Path.{sym, ◌∙◌}
use native.Mathlib.Omega.{arith}
use borrow.Author.Tests.{not-true, not-false}
use Rattle.device_head.specs.Read.{lens_in}
use Rattle.device_check.proofs.Members.{at_faulty, at_sound}
use Rattle.device_check.proofs.check_member.Goals as goal

pub returns-then-not-ok_texts : goal.returns-then-not-ok_texts
returns-then-not-ok_texts c =
    let if2 = c.if-lens-ne0 in
    let r = c in
    let a = c.args in
    sym
    (at_faulty a.rec.now a.at (lens_in c.read_lens-lens.result) c.read_lens-lens.ensures.is (omega arith) if2.false (omega arith)
    (omega (arith, c.read_lens-lens.ensures.subsystem)) (omega (arith, c.read_lens-lens.ensures.driver))
    (omega (arith, c.read_lens-lens.ensures.attributes)) (sym c.ok_texts.ensures ∙ c.if-not-ok_texts.true))

pub returns : goal.returns
returns c =
    let if2 = c.if-lens-ne0 in
    let ok-texts = c.ok_texts in
    let r = c in
    let a = c.args in
    c.check_row.ensures
    ∙ sym
    (at_sound a.rec.now a.at (lens_in c.read_lens-lens.result) c.read_lens-lens.ensures.is (omega arith) if2.false (omega arith)
    (omega (arith, c.read_lens-lens.ensures.subsystem)) (omega (arith, c.read_lens-lens.ensures.driver))
    (omega (arith, c.read_lens-lens.ensures.attributes)) (sym ok-texts.ensures ∙ c.if-not-ok_texts.false))
