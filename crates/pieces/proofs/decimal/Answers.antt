use mathlib.Core.Path.{refl, ◌∙◌}
use native.Mathlib.Omega.{arith}
use lib.ListN.{length-set}
use Rattle.pieces.proofs.Numbers.{writing_begins, places-left, writing_on, writing_ends}
use Rattle.pieces.proofs.decimal.Goals as goal

pub loop-m-init : goal.loop-m-init
loop-m-init c = writing_begins c.args.n _ refl c.ranges.n.fits

pub bounds-digits-start : goal.bounds-digits-start
bounds-digits-start c =
    let loop = c.loop-m in
    omega (arith, loop.invariant.inside, loop.invariant.size)

pub overflow_sub-start : goal.overflow_sub-start
overflow_sub-start c =
    let entry = c.args in
    let loop-call = c.loop-m in
    let loop = loop-call in
    omega (arith, places-left entry.n loop.digits loop.start loop.m 0 loop.invariant c.loop-m-test.true)

pub loop-m-preserved : goal.loop-m-preserved
loop-m-preserved c =
    let entry = c.args in
    let loop-call = c.loop-m in
    let loop = loop-call in
    writing_on entry.n loop.digits loop.start loop.m c.digit.result loop.invariant c.loop-m-test.true
    c.digit.ensures

pub bounds-digits-start-2 : goal.bounds-digits-start-2
bounds-digits-start-2 c =
    let loop = c.loop-m in
    omega (arith, loop.invariant.inside, loop.invariant.size)

pub returns : goal.returns
returns c =
    let entry = c.args in
    let loop-call = c.loop-m in
    let loop = loop-call in
    record
    { same = writing_ends entry.n loop.digits loop.start loop.m c.digit-2.result loop.invariant c.loop-m-test.false c.digit-2.ensures; inside = loop.invariant.inside; size = length-set loop.digits loop.start c.digit-2.result ∙ loop.invariant.size }
