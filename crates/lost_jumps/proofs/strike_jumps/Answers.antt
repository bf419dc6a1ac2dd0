use Rattle.lost_jumps.proofs.Judged.{turn-start, turn_on, emptied-all}
use mathlib.Core.Path.{refl, ◌∙◌}
use borrow.Author.Rules.{rules}
use native.Mathlib.Omega.{arith}
use Rattle.lost_jumps.proofs.strike_jumps.Goals as goal

pub loop-i-init : goal.loop-i-init
loop-i-init c =
    let a = c.args in
    (turn-start a.values.now a.rows.now a.rules.now a.labels.now a.count, refl, refl)

pub judge_rule-requires : goal.judge_rule-requires
judge_rule-requires c =
    let a = c.args in
    let (m, (used, x)) = c.requires.3 in
    (omega (arith, c.loop-i.invariant.0.within, c.loop-i-test.true), omega (arith, c.loop-i.invariant.2, c.requires.1), omega (arith, c.loop-i.invariant.1, c.requires.2), (m, (used, c.loop-i.invariant.0.table m used x)))

pub loop-i-preserved : goal.loop-i-preserved
loop-i-preserved c =
    let a = c.args in
    let (m, (used, x)) = c.requires.3 in (
      turn_on a.values.now a.rows.now a.rules.now a.labels.now c.loop-i.rules c.loop-i.labels c.loop-i.i a.count c.loop-i.invariant.0 c.loop-i-test.true _ _ m used x c.judge_rule.ensures,
      c.judge_rule.auto.rules ∙ c.loop-i.invariant.1,
      c.judge_rule.auto.labels ∙ c.loop-i.invariant.2,
    )

pub shape_of-rules : goal.shape_of-rules
shape_of-rules c =
    c.loop-i.invariant.1

pub shape_of-labels : goal.shape_of-labels
shape_of-labels c =
    c.loop-i.invariant.2

pub returns : goal.returns
returns c =
    let a = c.args in
    emptied-all a.values.now a.rows.now a.rules.now a.labels.now c.loop-i.rules c.loop-i.labels c.loop-i.i a.count c.loop-i.invariant.0 c.loop-i-test.false
