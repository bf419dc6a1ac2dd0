use Rattle.std.specs.Prelude.{Ok, Err}
use borrow.Author.Rules.{rules}
use Rattle.std.proofs.lemmas.Result.{err_from_is_err_and}
use Prim.Native.Nat.{◌-◌}
use mathlib.Core.Path.{refl, sym, ◌∙◌}
use native.Mathlib.Omega.{arith}
use Rattle.assignment.proofs.Rows.{going_start, still_ready, going_end, readable, going_past, going_on, going_refused}
use Rattle.assignment.proofs.assign_all.Goals as goal

pub loop-i-init : goal.loop-i-init
loop-i-init c =
    let x = c.args in
    going_start x.values.now x.rows.now x.from x.to x.t.now x.dev.now x.chain x.place x.layout c.requires.0

pub pair_at-entry-requires : goal.pair_at-entry-requires
pair_at-entry-requires c = omega (arith, c.requires.0.rows.room)

pub loop-i-preserved-then-is_match : goal.loop-i-preserved-then-is_match
loop-i-preserved-then-is_match c =
    let x = c.args in
    let loop = c.loop-i in
    let pair-at = c.pair_at-entry in
    going_past x.values.now x.rows.now x.from x.to x.t.now x.dev.now x.chain x.place x.layout loop.t
    loop.work loop.i loop.invariant pair-at.result pair-at.ensures (omega arith) (sym c.is_match.ensures ∙ c.if-is_match.true)

pub assign_pair-requires : goal.assign_pair-requires
assign_pair-requires c =
    let x = c.args in
    let loop = c.loop-i in
    let pair-at = c.pair_at-entry in (
      readable x.values.now x.rows.now x.from x.to x.t.now x.dev.now x.chain x.place x.layout loop.t
          loop.work loop.i loop.invariant pair-at.result pair-at.ensures (omega arith) c.requires.0.rows,
      sym c.is_match.ensures ∙ c.if-is_match.false,
      still_ready x.values.now x.rows.now x.from x.to x.t.now x.dev.now x.chain x.place x.layout loop.t
          loop.work loop.i loop.invariant c.requires.1,
      c.requires.2,
    )

pub loop-i-preserved : goal.loop-i-preserved
loop-i-preserved c =
    let x = c.args in
    let loop = c.loop-i in
    let pair-at = c.pair_at-entry in
    going_on x.values.now x.rows.now x.from x.to x.t.now x.dev.now x.chain x.place x.layout loop.t
    loop.work loop.i loop.invariant pair-at.result pair-at.ensures (omega arith) c.assign_pair.new.t (Ok c.in_ok-work.work) c.in_ok-work.ensures
    c.in_ok-work.work refl (search rules)

pub returns-in_err-work : goal.returns-in_err-work
returns-in_err-work c =
    let x = c.args in
    let loop = c.loop-i in
    let pair-at = c.pair_at-entry in
    let p = err_from_is_err_and c.from_residual.result c.from_residual.ensures.1 in
    rw (p.1, p.2)
    (going_refused x.values.now x.rows.now x.from x.to x.t.now x.dev.now x.chain x.place x.layout loop.t
    loop.work loop.i loop.invariant pair-at.result pair-at.ensures (omega arith) c.assign_pair.new.t (Err c.in_err-work.field-0.0) c.in_err-work.ensures
    c.in_err-work.field-0.0 refl)

pub shape_of-t : goal.shape_of-t
shape_of-t c = c.loop-i.invariant.room

pub returns : goal.returns
returns c =
    let x = c.args in
    let loop = c.loop-i in
    going_end x.values.now x.rows.now x.from x.to x.t.now x.dev.now x.chain x.place x.layout loop.t
    loop.work loop.i loop.invariant (omega arith)
