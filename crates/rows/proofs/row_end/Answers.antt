use Rattle.std.proofs.Common.{◌∙◌}
use Rattle.rows.proofs.Turns.{row_step, end_step}
use Rattle.rows.proofs.row_end.Goals as goal

pub loop-preserved : goal.loop-preserved
loop-preserved c =
    let l = c.loop in
    let a = c.args in
    let e = c.parts_at-p in (
      e.ensures.within,
      row_step a.kind a.rec.now l.p a.n l.counter e.result e.ensures c.loop-test.true l.invariant.1,
      l.invariant.2 ∙ end_step a.kind a.rec.now l.p a.n l.counter e.result e.ensures c.loop-test.true,
    )
