use Prim.Native.Nat.{◌-◌}
use mathlib.Core.Path.{refl, sym, ◌∙◌}
use native.Mathlib.Omega.{arith}
use Rattle.action_rows.proofs.Notes.{action_here, action_later, action_none}
use Rattle.action_rows.proofs.action_in.Goals as goal

pub loop-i-init : goal.loop-i-init
loop-i-init c = (c.requires.0, refl)

pub overflow_mul-i : goal.overflow_mul-i
overflow_mul-i c = omega (arith, c.loop-i-test.true, c.requires.1)

pub number_at-requires : goal.number_at-requires
number_at-requires c = omega (arith, c.loop-i-test.true, c.requires.2)

pub returns-then-number_at-lt16 : goal.returns-then-number_at-lt16
returns-then-number_at-lt16 c =
    let x = c.args in
    let loop = c.loop-i in
    let number_at = c.number_at in
    (sym (loop.invariant.1 ∙ action_here x.rows.now loop.i x.to c.loop-i-test.true (omega (arith, number_at.ensures.0, c.if-number_at-lt16.true))), omega (arith, c.loop-i-test.true))

pub loop-i-preserved : goal.loop-i-preserved
loop-i-preserved c =
    let x = c.args in
    let loop = c.loop-i in
    let number_at = c.number_at in
    (omega (arith, c.loop-i-test.true), loop.invariant.1 ∙ action_later x.rows.now loop.i x.to c.loop-i-test.true (omega (arith, number_at.ensures.0, c.if-number_at-lt16.false)))

pub returns : goal.returns
returns c =
    let x = c.args in
    let loop = c.loop-i in
    (sym (loop.invariant.1 ∙ action_none x.rows.now loop.i x.to c.loop-i-test.false), omega arith)
