use Prim.Native.Nat.{◌+◌, ◌-◌}
use mathlib.Core.Path.{◌∙◌}
use native.Mathlib.Omega.{arith}
use Rattle.table.proofs.Bytes.{text-size, put-none, put-part, put_last}
use Rattle.table.proofs.put_groups.Goals as goal

pub loop-i-init : goal.loop-i-init
loop-i-init c =
    let x = c.args in
    (omega arith, put-none _ x.at x.values.now (omega (arith, c.requires.2, text-size x.line.now x.start x.end c.requires.0 c.requires.1 x.at x.values.now c.requires.2)))

pub overflow_add-at : goal.overflow_add-at
overflow_add-at c = omega (arith, c.loop-i-test.true, c.requires.2)

pub overflow_add-start : goal.overflow_add-start
overflow_add-start c = omega (arith, c.loop-i-test.true, c.requires.1)

pub put_group-requires : goal.put_group-requires
put_group-requires c = (omega (arith, c.loop-i-test.true, c.requires.1), omega (arith, c.loop-i-test.true, c.requires.2, c.loop-i.invariant.1.size))

pub overflow_add-i : goal.overflow_add-i
overflow_add-i c = omega (arith, c.loop-i-test.true, c.requires.1)

pub loop-i-smaller : goal.loop-i-smaller
loop-i-smaller c = omega (arith, c.loop-i-test.true)

pub loop-i-preserved : goal.loop-i-preserved
loop-i-preserved c =
    let x = c.args in (
      omega (arith, c.loop-i-test.true),
      put-part x.line.now x.start x.end c.requires.0 c.requires.1 x.at x.values.now c.requires.2 c.loop-i.values c.put_group.new.values
          c.loop-i.i c.loop-i.i 8 (omega arith) (omega (arith, c.loop-i-test.true)) c.loop-i.invariant.0 c.loop-i.invariant.1 c.put_group.ensures,
    )

pub put_group-requires-2 : goal.put_group-requires-2
put_group-requires-2 c = (omega (arith, c.requires.1, c.requires.3), omega (arith, c.requires.2, c.requires.3, c.loop-i.invariant.1.size))

pub shape_of-values : goal.shape_of-values
shape_of-values c = c.put_group-2.auto.values ∙ c.loop-i.invariant.1.size

pub returns : goal.returns
returns c =
    let x = c.args in
    let g = put-part x.line.now x.start x.end c.requires.0 c.requires.1 x.at x.values.now c.requires.2
    c.loop-i.values c.put_group-2.new.values c.loop-i.i
    (x.end - x.start - 8) 8 (omega (arith, c.loop-i-test.false))
    (omega (arith, c.requires.3)) c.loop-i.invariant.0
    c.loop-i.invariant.1 c.put_group-2.ensures in
    put_last x.line.now x.start x.end c.requires.0 c.requires.1 x.at x.values.now c.requires.2 c.put_group-2.new.values _ (omega (arith, c.requires.3)) g
