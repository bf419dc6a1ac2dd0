use mathlib.Core.Path.{refl, ◌∙◌}
use native.Mathlib.Omega.{arith}
use Rattle.holders.proofs.Answers.{listing_none, going_same}
use Rattle.holders.proofs.list.Goals as goal

pub loop-init : goal.loop-init
loop-init c = (listing_none c.args.set.now c.args.t.now c.args.n c.requires.0 c.requires.1, refl, refl)

pub list_record-done-requires : goal.list_record-done-requires
list_record-done-requires c =
    (going_same c.args.set.now c.loop.t c.args.t.now c.args.n c.loop.invariant.1 c.requires.0, c.loop.invariant.0, omega (arith, c.loop-test.true, c.loop.invariant.2))

pub loop-preserved : goal.loop-preserved
loop-preserved c =
    (c.list_record-done.ensures.0, c.list_record-done.auto.t ∙ c.loop.invariant.1, omega (arith, c.list_record-done.ensures.1, c.loop.invariant.2))

pub shape_of-t : goal.shape_of-t
shape_of-t c = c.loop.invariant.1

pub returns : goal.returns
returns c = (c.loop.invariant.0, omega (arith, c.loop-test.false, c.loop.invariant.2))
