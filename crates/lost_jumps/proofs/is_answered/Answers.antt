use Rattle.lost_jumps.proofs.Answered.{answered-here, answered_nowhere}
use Rattle.jumps.proofs.Goes.{none_more}
use mathlib.Core.Path.{sym, ◌∙◌}
use Prim.Native.Nat.{◌-◌}
use native.Mathlib.Omega.{arith}
use Rattle.lost_jumps.proofs.is_answered.Goals as goal

pub loop-i-init : goal.loop-i-init
loop-i-init c = (omega arith, λ t m used x k p q. absurd (omega arith))

pub is_label-requires : goal.is_label-requires
is_label-requires c =
    let pre = c.requires in
    let (t, (m, (used, x))) = pre.2 in (omega (arith, pre.1, c.loop-i-test.true), (t, (m, (used, (c.args.count, c.loop-i-test.true, x)))))

pub returns-then-is_label : goal.returns-then-is_label
returns-then-is_label c =
    λ t m used x.
    let a = c.args in
    answered-here a.values.now a.rows.now t a.name.now a.from a.count c.loop-i.i c.loop-i.invariant.0 (c.loop-i.invariant.1 t m used x) c.loop-i-test.true
    (sym (c.is_label.ensures t m used a.count c.loop-i-test.true x) ∙ c.if-is_label.true)

pub loop-i-preserved : goal.loop-i-preserved
loop-i-preserved c =
    let a = c.args in (
      omega (arith, c.loop-i.invariant.0),
      λ t m used x. none_more a.values.now a.rows.now t a.name.now a.from c.loop-i.i (c.loop-i.invariant.1 t m used x) (sym (c.is_label.ensures t m used a.count c.loop-i-test.true x) ∙ c.if-is_label.false),
    )

pub returns : goal.returns
returns c =
    λ t m used x.
    let a = c.args in
    answered_nowhere a.values.now a.rows.now t a.name.now a.from a.count c.loop-i.i c.loop-i.invariant.0 (c.loop-i.invariant.1 t m used x) c.loop-i-test.false c.requires.0
