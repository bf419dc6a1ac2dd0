use Prim.Native.Nat.{◌-◌}
use mathlib.Core.Path.{refl, sym, ◌∙◌}
use native.Mathlib.Omega.{arith}
use borrow.Author.Tests.{not-true, not-false}
use Rattle.table.proofs.Pairs.{entry_in}
use Rattle.programs.proofs.Results.{results_fail, results_next, results_end}
use Rattle.programs.proofs.results_hold.Goals as goal

pub loop-i-init : goal.loop-i-init
loop-i-init c = (c.requires.0, refl)

pub pair_at-requires : goal.pair_at-requires
pair_at-requires c = omega (arith, c.requires.1.room)

pub result_holds-requires : goal.result_holds-requires
result_holds-requires c =
    let a = c.args in
    entry_in a.values.now a.rows.now c.loop-i.i a.to c.pair_at.result c.pair_at.ensures (omega arith) c.requires.1

pub returns-then-not-result_holds : goal.returns-then-not-result_holds
returns-then-not-result_holds c =
    let a = c.args in
    let l = c.loop-i in
    let p = c.pair_at in
    let fails = sym c.result_holds.ensures ∙ not-true _ c.if-not-result_holds.true-raw in
    sym (l.invariant.1 ∙ results_fail a.values.now a.rows.now l.i a.to a.output.now p.result p.ensures (omega arith) fails)

pub loop-i-preserved : goal.loop-i-preserved
loop-i-preserved c =
    let a = c.args in
    let l = c.loop-i in
    let p = c.pair_at in
    let holds = sym c.result_holds.ensures ∙ not-false _ c.if-not-result_holds.false-raw in
    (omega arith, l.invariant.1 ∙ results_next a.values.now a.rows.now l.i a.to a.output.now p.result p.ensures (omega arith) holds)

pub returns : goal.returns
returns c =
    let a = c.args in
    let l = c.loop-i in
    sym (l.invariant.1 ∙ results_end a.values.now a.rows.now l.i a.to a.output.now (omega arith))
