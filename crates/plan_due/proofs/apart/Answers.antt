use Prim.Native.Nat.{◌+◌, ◌-◌}
use mathlib.Core.Path.{ap, ◌∙◌}
use Rattle.device.specs.Device.{decode}
use Rattle.plan_rows.proofs.Walk.{walk_from, walk_here, walk_next, walk_last}
use Rattle.plan_due.proofs.Each.{Apart, apart-first, apart-not, apart_next}
use native.Mathlib.Omega.{arith}
use Rattle.plan_due.proofs.apart.Goals as goal

pub loop-init : goal.loop-init
loop-init c =
    let entry = c.args in
    let pre = c.requires in
    apart-first entry.set.now entry.p entry.n entry.path.now entry.link.now pre _ (omega arith)

pub wish_in-place-requires : goal.wish_in-place-requires
wish_in-place-requires c =
    let entry = c.args in
    let loop = c.loop in
    let loop-test = c.loop-test in
    walk_from (Apart entry.set.now entry.p entry.n entry.path.now entry.link.now) entry.set.now loop.q (entry.n - loop.counter) loop.invariant (omega (arith, loop-test.true))

pub bytes_of-requires : goal.bytes_of-requires
bytes_of-requires c =
    let wish-in = c.wish_in-place in
    wish-in.ensures.device

pub bytes_of-requires-in-loop : goal.bytes_of-requires-in-loop
bytes_of-requires-in-loop c =
    let wish-in = c.wish_in-place in
    wish-in.ensures.link

pub differs-other-requires : goal.differs-other-requires
differs-other-requires c =
    let entry = c.args in
    let loop = c.loop in
    let loop-test = c.loop-test in
    let wish-in = c.wish_in-place in
    let bytes_of = c.bytes_of in
    let here = walk_here (Apart entry.set.now entry.p entry.n entry.path.now entry.link.now) entry.set.now loop.q (entry.n - loop.counter) loop.invariant (omega (arith, loop-test.true)) wish-in.result wish-in.ensures in
    (here.naming.device, ap decode (bytes_of.ensures ∙ here.device) ∙ here.sound)

pub returns-then-not-other : goal.returns-then-not-other
returns-then-not-other c =
    let entry = c.args in
    let loop = c.loop in
    let loop-test = c.loop-test in
    let wish-in = c.wish_in-place in
    let bytes_of = c.bytes_of in
    let bytes-of2 = c.bytes_of-in-loop in
    let differs = c.differs-other in
    let if1 = c.if-not-other in
    let here = walk_here (Apart entry.set.now entry.p entry.n entry.path.now entry.link.now) entry.set.now loop.q (entry.n - loop.counter) loop.invariant (omega (arith, loop-test.true)) wish-in.result wish-in.ensures in
    apart-not entry.set.now entry.p entry.n entry.path.now entry.link.now loop.invariant.namings loop.invariant.so_far wish-in.result here bytes_of.result.now bytes-of2.result.now bytes_of.ensures bytes-of2.ensures
    differs.result differs.ensures (if1.true)

pub loop-preserved : goal.loop-preserved
loop-preserved c =
    let entry = c.args in
    let loop = c.loop in
    let loop-test = c.loop-test in
    let wish-in = c.wish_in-place in
    let bytes_of = c.bytes_of in
    let bytes-of2 = c.bytes_of-in-loop in
    let differs = c.differs-other in
    let if1 = c.if-not-other in
    let here = walk_here (Apart entry.set.now entry.p entry.n entry.path.now entry.link.now) entry.set.now loop.q (entry.n - loop.counter) loop.invariant (omega (arith, loop-test.true)) wish-in.result wish-in.ensures in
    walk_next (Apart entry.set.now entry.p entry.n entry.path.now entry.link.now) entry.set.now loop.q (entry.n - loop.counter) loop.invariant wish-in.result here
    (apart_next entry.set.now entry.p entry.n entry.path.now entry.link.now loop.invariant.namings loop.invariant.so_far wish-in.result here bytes_of.result.now bytes-of2.result.now bytes_of.ensures bytes-of2.ensures
    differs.result differs.ensures (if1.false)) (entry.n - (loop.counter + 1)) (omega (arith, loop-test.true))

pub returns : goal.returns
returns c =
    let entry = c.args in
    let loop = c.loop in
    let loop-test = c.loop-test in
    walk_last (Apart entry.set.now entry.p entry.n entry.path.now entry.link.now) entry.set.now loop.q (entry.n - loop.counter) loop.invariant (omega (arith, loop-test.false))
