use Prim.Native.Nat.{◌+◌, ◌-◌}
use mathlib.Core.Path.{ap, ◌∙◌}
use Rattle.device.specs.Device.{decode}
use Rattle.rule_writing.proofs.Writes.{writes_kept}
use Rattle.plan_rows.proofs.Walk.{walk_from, walk_here, walk_last}
use Rattle.planner.proofs.Lines.{Left, plan-first, line_room, line-next, plan_last}
use native.Mathlib.Omega.{arith}
use Rattle.planner.proofs.put_plan.Goals as goal

pub loop-init : goal.loop-init
loop-init c =
    let entry = c.args in
    let pre = c.requires in
    plan-first entry.set.now entry.out.now (entry.n - 0) pre.0 (omega (arith, pre.1))

pub wish_in-place-requires : goal.wish_in-place-requires
wish_in-place-requires c =
    let entry = c.args in
    let loop = c.loop in
    let loop-test = c.loop-test in
    walk_from (Left entry.set.now entry.out.now loop.out loop.used) entry.set.now loop.p (entry.n - loop.counter) loop.invariant (omega (arith, loop-test.true))

pub bytes_of-requires : goal.bytes_of-requires
bytes_of-requires c =
    let wish-in = c.wish_in-place in
    wish-in.ensures.device

pub event_path-path-requires : goal.event_path-path-requires
event_path-path-requires c =
    let entry = c.args in
    let loop = c.loop in
    let loop-test = c.loop-test in
    let wish-in = c.wish_in-place in
    let bytes_of = c.bytes_of in
    let here = walk_here (Left entry.set.now entry.out.now loop.out loop.used) entry.set.now loop.p (entry.n - loop.counter) loop.invariant (omega (arith, loop-test.true)) wish-in.result wish-in.ensures in
    (here.naming.device, ap decode (bytes_of.ensures ∙ here.device) ∙ here.sound)

pub bytes_of-requires-in-loop : goal.bytes_of-requires-in-loop
bytes_of-requires-in-loop c =
    let wish-in = c.wish_in-place in
    wish-in.ensures.link

pub put_line-used-requires : goal.put_line-used-requires
put_line-used-requires c =
    let entry = c.args in
    let loop = c.loop in
    let loop-test = c.loop-test in
    let wish-in = c.wish_in-place in
    let bytes_of = c.bytes_of in
    let event-path = c.event_path-path in
    let bytes-of2 = c.bytes_of-in-loop in
    let pre = c.requires in
    let here = walk_here (Left entry.set.now entry.out.now loop.out loop.used) entry.set.now loop.p (entry.n - loop.counter) loop.invariant (omega (arith, loop-test.true)) wish-in.result wish-in.ensures in
    line_room entry.set.now entry.out.now loop.out loop.used loop.invariant.namings loop.invariant.so_far wish-in.result here
    bytes_of.result.now event-path.result.now bytes-of2.result.now bytes_of.ensures bytes-of2.ensures event-path.ensures pre.2

pub loop-preserved : goal.loop-preserved
loop-preserved c =
    let entry = c.args in
    let loop = c.loop in
    let loop-test = c.loop-test in
    let wish-in = c.wish_in-place in
    let bytes_of = c.bytes_of in
    let event-path = c.event_path-path in
    let bytes-of2 = c.bytes_of-in-loop in
    let put-line = c.put_line-used in
    let here = walk_here (Left entry.set.now entry.out.now loop.out loop.used) entry.set.now loop.p (entry.n - loop.counter) loop.invariant (omega (arith, loop-test.true)) wish-in.result wish-in.ensures in
    line-next entry.set.now entry.out.now loop.out loop.used loop.invariant.namings loop.invariant.so_far wish-in.result here
    bytes_of.result.now event-path.result.now bytes-of2.result.now bytes_of.ensures bytes-of2.ensures event-path.ensures
    put-line.result put-line.new.out put-line.ensures (entry.n - (loop.counter + 1)) (omega (arith, loop.invariant.counted, loop-test.true))

pub shape_of-out : goal.shape_of-out
shape_of-out c =
    let loop = c.loop in
    writes_kept loop.invariant.so_far

pub returns : goal.returns
returns c =
    let entry = c.args in
    let loop = c.loop in
    let loop-test = c.loop-test in
    plan_last entry.set.now entry.out.now loop.out loop.used (walk_last (Left entry.set.now entry.out.now loop.out loop.used) entry.set.now loop.p (entry.n - loop.counter) loop.invariant (omega (arith, loop-test.false)))
