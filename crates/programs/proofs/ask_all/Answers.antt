use mathlib.Core.Path.{refl, ap}
use Rattle.std.specs.Prelude.{Ok, Err}
use Rattle.std.proofs.lemmas.Result.{err_from_is_err_and}
use native.Mathlib.Omega.{arith}
use borrow.Author.Rules.{rules}
use Rattle.programs.proofs.Rows.{going_start, still_ready, going_end, readable, going_on, going_failed, going_refused}
use Rattle.programs.proofs.ask_all.Goals as goal

pub loop-i-init : goal.loop-i-init
loop-i-init c =
    let a = c.args in
    going_start a.values.now a.rows.now a.from a.to a.sheet.now a.t.now a.dev.now a.chain a.place a.layout c.requires.0

pub pair_at-entry-requires : goal.pair_at-entry-requires
pair_at-entry-requires c = omega (arith, c.requires.0.rows.room)

pub ask_pair-requires : goal.ask_pair-requires
ask_pair-requires c =
    let a = c.args in
    let l = c.loop-i in
    let q = c.pair_at-entry in (
      readable a.values.now a.rows.now a.from a.to a.sheet.now a.t.now a.dev.now a.chain a.place a.layout l.t l.layout l.i l.invariant q.result q.ensures
          (omega arith) c.requires.0.rows,
      still_ready a.values.now a.rows.now a.from a.to a.sheet.now a.t.now a.dev.now a.chain a.place a.layout l.t l.layout l.i l.invariant c.requires.3 c.requires.1,
      c.requires.2,
      c.requires.3,
    )

pub loop-i-preserved : goal.loop-i-preserved
loop-i-preserved c =
    let a = c.args in
    let l = c.loop-i in
    let q = c.pair_at-entry in
    going_on a.values.now a.rows.now a.from a.to a.sheet.now a.t.now a.dev.now a.chain a.place a.layout l.t l.layout l.i l.invariant q.result q.ensures (omega arith) c.ask_pair.new.t (Ok c.in_ok-asked.asked) c.in_ok-asked.ensures _
    (ap Ok c.in-Held.is) (search rules)

pub returns-in-Failed : goal.returns-in-Failed
returns-in-Failed c =
    let a = c.args in
    let l = c.loop-i in
    let q = c.pair_at-entry in
    going_failed a.values.now a.rows.now a.from a.to a.sheet.now a.t.now a.dev.now a.chain a.place a.layout l.t l.layout l.i l.invariant q.result q.ensures (omega arith) c.ask_pair.new.t (Ok c.in_ok-asked.asked) c.in_ok-asked.ensures _
    (ap Ok c.in-Failed.is)

pub returns-in_err-asked : goal.returns-in_err-asked
returns-in_err-asked c =
    let a = c.args in
    let l = c.loop-i in
    let q = c.pair_at-entry in
    let p = err_from_is_err_and c.from_residual.result c.from_residual.ensures.1 in
    rw (p.1, p.2)
    (going_refused a.values.now a.rows.now a.from a.to a.sheet.now a.t.now a.dev.now a.chain a.place a.layout l.t l.layout l.i l.invariant q.result q.ensures (omega arith) c.ask_pair.new.t (Err c.in_err-asked.field-0.0) c.in_err-asked.ensures c.in_err-asked.field-0.0
    refl)

pub shape_of-t : goal.shape_of-t
shape_of-t c = c.loop-i.invariant.room

pub returns : goal.returns
returns c =
    let a = c.args in
    let l = c.loop-i in
    going_end a.values.now a.rows.now a.from a.to a.sheet.now a.t.now a.dev.now a.chain a.place a.layout l.t l.layout l.i l.invariant (omega arith)
