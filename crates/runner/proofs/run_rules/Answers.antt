-- `runner::run_rules` meets its contract.
use Prim.Native.Nat.{◌-◌, ◌*◌, ◌≤◌, ◌<◌}
use native.Mathlib.Omega.{arith}
use borrow.Author.Rules.{rules}
use Rattle.runner.proofs.Running.{going_start, still_ready, further, going_on, going_refused, going_end}
use Rattle.runner.proofs.run_rules.Goals as goal

pub loop-i-init : goal.loop-i-init
loop-i-init c =
    let a = c.args in going_start a.values.now a.rows.now a.rules.now a.count a.dev.now a.chain a.sheet.now a.t.now a.layout

pub run_rule-requires : goal.run_rule-requires
run_rule-requires c =
    let a = c.args in
    let l = c.loop-i in (
      c.loop-i-test.true,
      c.requires.0,
      still_ready a.values.now a.rows.now a.rules.now a.count a.dev.now a.chain a.sheet.now a.t.now a.layout l.t
          l.layout l.visited l.tried l.i l.invariant c.requires.2 c.requires.1,
      c.requires.2,
    )

pub overflow_add-visited : goal.overflow_add-visited
overflow_add-visited c = let l = c.loop-i in omega (arith, l.invariant.few, l.invariant.within, c.requires.0.few)

pub overflow_add-tried : goal.overflow_add-tried
overflow_add-tried c =
    let a = c.args in
    let l = c.loop-i in
    let x = c.run_rule in
    let y =
    further a.values.now a.rows.now a.rules.now a.count a.dev.now a.chain a.sheet.now a.t.now a.layout l.t l.layout
    l.visited l.tried l.i l.invariant _ x.result x.ensures _ c.in-Ok.is in
    omega (arith, l.invariant.tried, l.invariant.few, l.invariant.within, c.requires.0.few, y.2)

pub loop-i-smaller : goal.loop-i-smaller
loop-i-smaller c =
    let a = c.args in
    let l = c.loop-i in
    let x = c.run_rule in
    let y =
    further a.values.now a.rows.now a.rules.now a.count a.dev.now a.chain a.sheet.now a.t.now a.layout l.t l.layout
    l.visited l.tried l.i l.invariant _ x.result x.ensures _ c.in-Ok.is in
    omega (arith, y.0, y.1)

pub loop-i-preserved : goal.loop-i-preserved
loop-i-preserved c =
    let a = c.args in
    let l = c.loop-i in
    let x = c.run_rule in
    going_on a.values.now a.rows.now a.rules.now a.count a.dev.now a.chain a.sheet.now a.t.now a.layout l.t l.layout
    l.visited l.tried l.i l.invariant _ x.result x.ensures _ c.in-Ok.is

pub overflow_mul-i : goal.overflow_mul-i
overflow_mul-i c = omega (arith, c.loop-i-test.true, c.requires.0.few)

pub number_at-requires : goal.number_at-requires
number_at-requires c = omega (arith, c.loop-i-test.true, c.requires.0.rules_room)

pub returns-in-Err : goal.returns-in-Err
returns-in-Err c =
    let a = c.args in
    let l = c.loop-i in
    let x = c.run_rule in
    going_refused a.values.now a.rows.now a.rules.now a.count a.dev.now a.chain a.sheet.now a.t.now a.layout l.t
    l.layout l.visited l.tried l.i l.invariant _ x.result x.ensures _
    c.in-Err.is c.number_at.result c.number_at.ensures.0 c.number_at.ensures.1

pub shape_of-t : goal.shape_of-t
shape_of-t c = c.loop-i.invariant.room

pub returns : goal.returns
returns c =
    let a = c.args in
    let l = c.loop-i in
    going_end a.values.now a.rows.now a.rules.now a.count a.dev.now a.chain a.sheet.now a.t.now a.layout l.t l.layout
    l.visited l.tried l.i l.invariant c.loop-i-test.false c.requires.0.few
