use Prim.Native.Nat.{◌+◌, ◌-◌}
use native.Mathlib.Omega.{arith}
use Rattle.scan.proofs.Groups.{above_both}
use Rattle.scan.proofs.line_groups.Goals as goal

pub loop-i-init : goal.loop-i-init
loop-i-init c = (omega arith, c.requires, λ k h l. absurd (omega arith))

pub returns-then-low_in_group : goal.returns-then-low_in_group
returns-then-low_in_group c = c.loop-i.invariant

pub loop-i-preserved : goal.loop-i-preserved
loop-i-preserved c =
    let entry = c.args in
    let loop-call = c.loop-i in
    let args = entry in
    let loop = loop-call in (
      omega arith,
      omega arith,
      above_both args.s.now args.at loop.i loop.invariant.2 (loop.i + 16) (c.low_in_group.ensures c.if-low_in_group.false),
    )

pub returns : goal.returns
returns c = c.loop-i.invariant
