use Rattle.std.proofs.Common.{sym, ◌∙◌, ◌-◌, arith}
use Rattle.rows.proofs.Turns.{find_here, find_step, row_step}
use Rattle.rows.proofs.find.Goals as goal

pub returns-then-same_long : goal.returns-then-same_long
returns-then-same_long c =
    let l = c.loop in
    let a = c.args in
    let e = c.parts_at-entry in
    (sym (l.invariant.2 ∙ find_here a.kind a.rec.now l.p (a.n - l.counter) e.result e.ensures (omega arith) a.x.now (sym c.same_long.ensures ∙ c.if-same_long.true)), (omega arith, omega arith))

pub loop-preserved : goal.loop-preserved
loop-preserved c =
    let l = c.loop in
    let a = c.args in
    let e = c.parts_at-entry in (
      e.ensures.within,
      row_step a.kind a.rec.now l.p a.n l.counter e.result e.ensures c.loop-test.true l.invariant.1,
      l.invariant.2 ∙ find_step a.kind a.rec.now l.p a.n l.counter e.result e.ensures c.loop-test.true a.x.now (sym c.same_long.ensures ∙ c.if-same_long.false),
    )
