-- `rows::check_entries` meets its contract.
-- Assumes nothing.
use Rattle.std.proofs.Common.{sym, ◌∙◌}
use Rattle.rows.proofs.Turns.{passed_turn}
use Rattle.rows.proofs.check_entries.Goals as goal

pub returns-then-not-holds : goal.returns-then-not-holds
returns-then-not-holds g c =
    let a = c.args in
    let l = c.loop in
    let e = c.in_ok-entry in
    let t = g.T.EntryTest in
    sym (l.invariant.1 ∙ passed_turn t.KIND (t.ok a.test.now) a.rec.now l.p a.n l.counter c.loop-test.true e.entry (rw c.KIND.ensures at e.ensures) ∙ rw (sym c.holds.ensures ∙ c.if-not-holds.true))

pub loop-preserved : goal.loop-preserved
loop-preserved g c =
    let a = c.args in
    let l = c.loop in
    let e = c.in_ok-entry in
    let t = g.T.EntryTest in
    (e.ensures.within, l.invariant.1 ∙ passed_turn t.KIND (t.ok a.test.now) a.rec.now l.p a.n l.counter c.loop-test.true e.entry (rw c.KIND.ensures at e.ensures) ∙ rw (sym c.holds.ensures ∙ c.if-not-holds.false))
