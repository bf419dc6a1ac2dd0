use Prim.Native.Nat.{◌-◌}
use mathlib.Core.Path.{ap, ◌∙◌}
use Rattle.device.specs.Device.{decode}
use Rattle.plan_rows.proofs.Walk.{walk_from, walk_here, walk_next, walk_last}
use Rattle.plan_due.proofs.Each.{Due, due-whole, others_stand, due_unspoken, due_twice, due-next}
use native.Mathlib.Omega.{arith}
use Rattle.plan_due.proofs.due.Goals as goal

pub loop-left-init : goal.loop-left-init
loop-left-init c =
    let entry = c.args in
    let pre = c.requires in
    due-whole entry.set.now entry.n pre.0 pre.1

pub wish_in-place-requires : goal.wish_in-place-requires
wish_in-place-requires c =
    let entry = c.args in
    let loop = c.loop-left in
    let loop-test = c.loop-left-test in
    walk_from (Due entry.set.now) entry.set.now loop.p loop.left loop.invariant (omega (arith, loop-test.true))

pub bytes_of-device-requires : goal.bytes_of-device-requires
bytes_of-device-requires c =
    let wish-in = c.wish_in-place in
    wish-in.ensures.device

pub bytes_of-link-requires : goal.bytes_of-link-requires
bytes_of-link-requires c =
    let wish-in = c.wish_in-place in
    wish-in.ensures.link

pub plan_naming-requires : goal.plan_naming-requires
plan_naming-requires c =
    let entry = c.args in
    let loop = c.loop-left in
    let loop-test = c.loop-left-test in
    let wish-in = c.wish_in-place in
    let bytes_of = c.bytes_of-device in
    let here = walk_here (Due entry.set.now) entry.set.now loop.p loop.left loop.invariant (omega (arith, loop-test.true)) wish-in.result wish-in.ensures in
    (here.naming.device, ap decode (bytes_of.ensures ∙ here.device) ∙ here.sound)

pub returns-then-not-plan_naming : goal.returns-then-not-plan_naming
returns-then-not-plan_naming c =
    let entry = c.args in
    let loop = c.loop-left in
    let loop-test = c.loop-left-test in
    let wish-in = c.wish_in-place in
    let bytes_of = c.bytes_of-device in
    let bytes-of2 = c.bytes_of-link in
    let plan-naming = c.plan_naming in
    let if1 = c.if-not-plan_naming in
    let here = walk_here (Due entry.set.now) entry.set.now loop.p loop.left loop.invariant (omega (arith, loop-test.true)) wish-in.result wish-in.ensures in
    due_unspoken entry.set.now loop.invariant.namings loop.invariant.so_far wish-in.result here bytes_of.result.now bytes-of2.result.now bytes_of.ensures bytes-of2.ensures
    plan-naming.result plan-naming.ensures (if1.true)

pub event_path-requires : goal.event_path-requires
event_path-requires c =
    let entry = c.args in
    let loop = c.loop-left in
    let loop-test = c.loop-left-test in
    let wish-in = c.wish_in-place in
    let bytes_of = c.bytes_of-device in
    let here = walk_here (Due entry.set.now) entry.set.now loop.p loop.left loop.invariant (omega (arith, loop-test.true)) wish-in.result wish-in.ensures in
    (here.naming.device, ap decode (bytes_of.ensures ∙ here.device) ∙ here.sound)

pub apart-requires : goal.apart-requires
apart-requires c =
    let entry = c.args in
    let loop = c.loop-left in
    let loop-test = c.loop-left-test in
    let wish-in = c.wish_in-place in
    let bytes_of = c.bytes_of-device in
    let bytes-of2 = c.bytes_of-link in
    let here = walk_here (Due entry.set.now) entry.set.now loop.p loop.left loop.invariant (omega (arith, loop-test.true)) wish-in.result wish-in.ensures in
    others_stand entry.set.now loop.invariant.namings loop.invariant.so_far wish-in.result here bytes_of.result.now bytes-of2.result.now bytes_of.ensures bytes-of2.ensures
    loop.left loop.invariant.counted

pub returns-then-not-apart : goal.returns-then-not-apart
returns-then-not-apart c =
    let entry = c.args in
    let loop = c.loop-left in
    let loop-test = c.loop-left-test in
    let wish-in = c.wish_in-place in
    let bytes_of = c.bytes_of-device in
    let bytes-of2 = c.bytes_of-link in
    let plan-naming = c.plan_naming in
    let if1 = c.if-not-plan_naming in
    let event-path = c.event_path in
    let apart = c.apart in
    let if2 = c.if-not-apart in
    let here = walk_here (Due entry.set.now) entry.set.now loop.p loop.left loop.invariant (omega (arith, loop-test.true)) wish-in.result wish-in.ensures in
    due_twice entry.set.now loop.invariant.namings loop.invariant.so_far wish-in.result here bytes_of.result.now bytes-of2.result.now bytes_of.ensures bytes-of2.ensures
    plan-naming.result plan-naming.ensures (if1.false) event-path.result.now event-path.ensures apart.result loop.left loop.invariant.counted apart.ensures (if2.true)

pub loop-left-preserved : goal.loop-left-preserved
loop-left-preserved c =
    let entry = c.args in
    let loop = c.loop-left in
    let loop-test = c.loop-left-test in
    let wish-in = c.wish_in-place in
    let bytes_of = c.bytes_of-device in
    let bytes-of2 = c.bytes_of-link in
    let plan-naming = c.plan_naming in
    let if1 = c.if-not-plan_naming in
    let event-path = c.event_path in
    let apart = c.apart in
    let if2 = c.if-not-apart in
    let here = walk_here (Due entry.set.now) entry.set.now loop.p loop.left loop.invariant (omega (arith, loop-test.true)) wish-in.result wish-in.ensures in
    walk_next (Due entry.set.now) entry.set.now loop.p loop.left loop.invariant wish-in.result here
    (due-next entry.set.now loop.invariant.namings loop.invariant.so_far wish-in.result here bytes_of.result.now bytes-of2.result.now bytes_of.ensures bytes-of2.ensures
    plan-naming.result plan-naming.ensures (if1.false) event-path.result.now event-path.ensures apart.result loop.left loop.invariant.counted apart.ensures (if2.false)) (loop.left - 1) (omega (arith, loop-test.true))

pub returns : goal.returns
returns c =
    let entry = c.args in
    let loop = c.loop-left in
    let loop-test = c.loop-left-test in
    walk_last (Due entry.set.now) entry.set.now loop.p loop.left loop.invariant (omega (arith, loop-test.false))
