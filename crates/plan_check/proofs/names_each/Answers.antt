use Prim.Native.Nat.{◌+◌, ◌-◌}
use mathlib.Core.Path.{sym, ap, ◌∙◌}
use borrow.Author.Tests.{not-true, not-false}
use Rattle.device.specs.Device.{decode}
use Rattle.plan_rows.proofs.Walk.{walk_from, walk_here, walk_next, walk_last}
use Rattle.plan_check.proofs.Each.{Decide, decide_first, decide_not, decide_next}
use borrow.Author.Rules.{rules}
use native.Mathlib.Omega.{arith}
use Rattle.plan_check.proofs.names_each.Goals as goal

pub loop-init : goal.loop-init
loop-init c =
    let entry = c.args in
    let pre = c.requires in
    (decide_first entry.values.now entry.rows.now entry.rules.now entry.read entry.set.now (entry.n - 0) pre.1 (omega (arith, pre.2)), pre.3)

pub wish_in-place-requires : goal.wish_in-place-requires
wish_in-place-requires c =
    let entry = c.args in
    let loop = c.loop in
    let loop-test = c.loop-test in
    walk_from (Decide entry.values.now entry.rows.now entry.rules.now entry.read entry.set.now) entry.set.now loop.p (entry.n - loop.counter) loop.invariant.0 (omega (arith, loop-test.true))

pub bytes_of-requires : goal.bytes_of-requires
bytes_of-requires c =
    let wish-in = c.wish_in-place in
    wish-in.ensures.device

pub bytes_of-requires-in-loop : goal.bytes_of-requires-in-loop
bytes_of-requires-in-loop c =
    let wish-in = c.wish_in-place in
    wish-in.ensures.link

pub names-named-requires : goal.names-named-requires
names-named-requires c =
    let entry = c.args in
    let loop = c.loop in
    let loop-test = c.loop-test in
    let wish-in = c.wish_in-place in
    let pre = c.requires in
    let bytes_of = c.bytes_of in
    let here = walk_here (Decide entry.values.now entry.rows.now entry.rules.now entry.read entry.set.now) entry.set.now loop.p (entry.n - loop.counter) loop.invariant.0 (omega (arith, loop-test.true)) wish-in.result wish-in.ensures in
    (pre.0, (here.naming.device, ap decode (bytes_of.ensures ∙ here.device) ∙ here.sound), loop.invariant.1)

pub shape_of-t-then-not-named : goal.shape_of-t-then-not-named
shape_of-t-then-not-named c =
    let names = c.names-named in
    let loop = c.loop in
    let pre = c.requires in
    names.auto.t ∙ loop.invariant.1 ∙ sym pre.3

pub returns-then-not-named : goal.returns-then-not-named
returns-then-not-named c =
    let entry = c.args in
    let loop = c.loop in
    let loop-test = c.loop-test in
    let wish-in = c.wish_in-place in
    let bytes_of = c.bytes_of in
    let bytes-of2 = c.bytes_of-in-loop in
    let names = c.names-named in
    let if1 = c.if-not-named in
    let here = walk_here (Decide entry.values.now entry.rows.now entry.rules.now entry.read entry.set.now) entry.set.now loop.p (entry.n - loop.counter) loop.invariant.0 (omega (arith, loop-test.true)) wish-in.result wish-in.ensures in
    decide_not entry.values.now entry.rows.now entry.rules.now entry.read entry.set.now loop.invariant.0.namings loop.invariant.0.so_far wish-in.result here bytes_of.result.now bytes-of2.result.now bytes_of.ensures bytes-of2.ensures
    names.result names.ensures (if1.true)

pub loop-preserved : goal.loop-preserved
loop-preserved c =
    let entry = c.args in
    let loop = c.loop in
    let loop-test = c.loop-test in
    let wish-in = c.wish_in-place in
    let bytes_of = c.bytes_of in
    let bytes-of2 = c.bytes_of-in-loop in
    let names = c.names-named in
    let if1 = c.if-not-named in
    let here = walk_here (Decide entry.values.now entry.rows.now entry.rules.now entry.read entry.set.now) entry.set.now loop.p (entry.n - loop.counter) loop.invariant.0 (omega (arith, loop-test.true)) wish-in.result wish-in.ensures in (
      walk_next (Decide entry.values.now entry.rows.now entry.rules.now entry.read entry.set.now) entry.set.now loop.p (entry.n - loop.counter) loop.invariant.0 wish-in.result here
          (decide_next entry.values.now entry.rows.now entry.rules.now entry.read entry.set.now loop.invariant.0.namings loop.invariant.0.so_far wish-in.result here bytes_of.result.now bytes-of2.result.now bytes_of.ensures bytes-of2.ensures
          names.result names.ensures (if1.false)) (entry.n - (loop.counter + 1)) (omega (arith, loop-test.true)),
      names.auto.t ∙ loop.invariant.1,
    )

pub shape_of-t : goal.shape_of-t
shape_of-t c =
    let loop = c.loop in
    let pre = c.requires in
    loop.invariant.1 ∙ sym pre.3

pub returns : goal.returns
returns c =
    let entry = c.args in
    let loop = c.loop in
    let loop-test = c.loop-test in
    walk_last (Decide entry.values.now entry.rows.now entry.rules.now entry.read entry.set.now) entry.set.now loop.p (entry.n - loop.counter) loop.invariant.0 (omega (arith, loop-test.false))
