use Rattle.left_lines.proofs.Leaves.{all_left_lem}
use mathlib.Core.Path.{refl, ◌∙◌}
use Prim.Native.Nat.{◌-◌}
use borrow.Author.Rules.{rules}
use native.Mathlib.Omega.{arith}
use Rattle.left_lines.proofs.leave_lines.Goals as goal

pub loop-left-init : goal.loop-left-init
loop-left-init c =
    (omega arith, c.requires, refl, refl)

pub leave_line-left-requires : goal.leave_line-left-requires
leave_line-left-requires c =
    (c.loop-left-test.true, c.loop-left.invariant.1)

pub loop-left-smaller : goal.loop-left-smaller
loop-left-smaller c =
    omega (arith, c.leave_line-left.ensures.0, c.leave_line-left.ensures.1)

pub loop-left-preserved : goal.loop-left-preserved
loop-left-preserved c =
    (c.leave_line-left.ensures.1, c.leave_line-left.ensures.2, c.leave_line-left.auto.list ∙ c.loop-left.invariant.2, c.leave_line-left.auto.target ∙ c.loop-left.invariant.3)

pub shape_of-list : goal.shape_of-list
shape_of-list c =
    c.loop-left.invariant.2

pub shape_of-target : goal.shape_of-target
shape_of-target c =
    c.loop-left.invariant.3

pub returns : goal.returns
returns c =
    let a = c.args in
    all_left_lem a.text.now a.rules.now c.loop-left.list c.loop-left.target a.end c.loop-left.left c.loop-left.invariant.1 (omega arith)
