use Rattle.left_lines.proofs.Lines.{newlines-none, newlines-more}
use Rattle.table.proofs.Pairs.{added_stored}
use lib.ListN.{replicate, length-set, length-replicate}
use mathlib.Core.Path.{◌≡◌, refl, ◌∙◌}
use Prim.Native.Nat.{ℕ, ◌-◌}
use native.Mathlib.Omega.{arith}
use Rattle.left_lines.proofs.put_newlines.Goals as goal

pub loop-i-init : goal.loop-i-init
loop-i-init c =
    (omega arith, newlines-none c.args.target.now c.args.used, refl)

pub overflow_add-target : goal.overflow_add-target
overflow_add-target c =
    omega (arith, c.requires, c.loop-i-test.true)

pub bounds-target-used : goal.bounds-target-used
bounds-target-used c =
    omega (arith, c.requires, c.loop-i-test.true, c.loop-i.invariant.2)

pub loop-i-preserved : goal.loop-i-preserved
loop-i-preserved c =
    let a = c.args in
    (omega (arith, c.loop-i-test.true), newlines-more a.target.now c.loop-i.target a.used c.loop-i.i (omega (arith, c.requires, c.loop-i-test.true)) c.loop-i.invariant.1, length-set c.loop-i.target _ _ ∙ c.loop-i.invariant.2)

pub shape_of-target : goal.shape_of-target
shape_of-target c =
    c.loop-i.invariant.2

pub returns : goal.returns
returns c =
    let a = c.args in
    let all : c.loop-i.i ≡ a.n = omega (arith, c.loop-i.invariant.0, c.loop-i-test.false) in
    added_stored (replicate a.n 10) a.used a.target.now c.loop-i.target (omega (arith, c.requires, length-replicate {A = ℕ} a.n 10)) (rw all at c.loop-i.invariant.1)
