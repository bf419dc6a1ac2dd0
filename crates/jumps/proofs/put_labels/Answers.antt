use Prim.Native.Nat.{◌+◌, ◌-◌}
use mathlib.Core.Path.{◌≡◌, refl, ◌∙◌}
use native.Mathlib.Omega.{arith}
use Rattle.jumps.proofs.put_labels.Goals as goal

pub loop-i-init : goal.loop-i-init
loop-i-init c = (c.requires.0, omega arith, refl, c.requires.3, λ k h. refl)

pub put_label-requires : goal.put_label-requires
put_label-requires c =
    let a = c.args in
    let (t, (m, (used, x))) = c.requires.2 in
    let q : c.loop-i.i - 1 + 1 ≡ c.loop-i.i = omega (arith, c.loop-i-test.true) in
    (omega (arith, c.loop-i-test.true, c.loop-i.invariant.1, c.requires.1), (t, (m, (used, (a.count, x, rw q c.loop-i.invariant.3)))))

pub loop-i-preserved : goal.loop-i-preserved
loop-i-preserved c =
    let a = c.args in
    let x = a in
    let q : c.loop-i.i - 1 + 1 ≡ c.loop-i.i = omega (arith, c.loop-i-test.true) in
    (omega (arith, c.loop-i-test.true), omega (arith, c.loop-i-test.true, c.loop-i.invariant.1), c.put_label.auto.later ∙ c.loop-i.invariant.2, c.put_label.ensures.0 x.count (rw q c.loop-i.invariant.3), λ k h. c.put_label.ensures.1 k h ∙ c.loop-i.invariant.4 k (omega arith))

pub shape_of-later : goal.shape_of-later
shape_of-later c = c.loop-i.invariant.2

pub returns : goal.returns
returns c = let q : c.loop-i.i ≡ c.args.from = omega (arith, c.loop-i.invariant.0, c.loop-i-test.false) in (rw q at c.loop-i.invariant.3, λ k h. c.loop-i.invariant.4 k (omega (arith, c.loop-i.invariant.0)))
