use Rattle.std.proofs.Common.{sym, ◌∙◌, ◌-◌, arith}
use Rattle.rows.proofs.Turns.{row-turn, row_step, twice_at, distinct_step}
use Rattle.rows.proofs.distinct.Goals as goal

pub has-requires : goal.has-requires
has-requires c =
    let l = c.loop-i in
    let a = c.args in
    let e = c.parts_at-entry in
    (e.ensures.within, row-turn a.kind a.rec.now l.p (a.n - l.i) e.result e.ensures (omega arith) l.invariant.1)

pub returns-then-has : goal.returns-then-has
returns-then-has c =
    let l = c.loop-i in
    let a = c.args in
    let e = c.parts_at-entry in
    sym (l.invariant.2 ∙ twice_at a.kind a.rec.now l.p a.n l.i e.result e.ensures c.loop-i-test.true (sym c.has.ensures ∙ c.if-has.true))

pub loop-i-preserved : goal.loop-i-preserved
loop-i-preserved c =
    let l = c.loop-i in
    let a = c.args in
    let e = c.parts_at-entry in (
      e.ensures.within,
      row_step a.kind a.rec.now l.p a.n l.i e.result e.ensures c.loop-i-test.true l.invariant.1,
      l.invariant.2 ∙ distinct_step a.kind a.rec.now l.p a.n l.i e.result e.ensures c.loop-i-test.true (sym c.has.ensures ∙ c.if-has.false),
    )
