use Prim.Native.Nat.{◌-◌}
use mathlib.Core.Path.{◌≡◌, refl, sym, ◌∙◌}
use native.Mathlib.Omega.{arith}
use lib.ListN.{length-set}
use Rattle.jumps.proofs.Nineteen.{settle-on, settle-all, none_is, put}
use Rattle.jumps.proofs.first_jump.Goals as goal

pub loop-i-init : goal.loop-i-init
loop-i-init c = (omega arith, refl, λ v s l m used x. (settle-all v s c.args.rules.now c.args.count, λ k h. absurd (omega arith)))

pub overflow_mul-i : goal.overflow_mul-i
overflow_mul-i c = omega (arith, c.loop-i-test.true, c.requires.0)

pub overflow_add-i : goal.overflow_add-i
overflow_add-i c = omega (arith, c.loop-i-test.true, c.requires.0)

pub number_at-requires : goal.number_at-requires
number_at-requires c = omega (arith, c.loop-i-test.true, c.requires.2)

pub shape_of-jumps-then-number_at-ne0 : goal.shape_of-jumps-then-number_at-ne0
shape_of-jumps-then-number_at-ne0 c = c.loop-i.invariant.1

pub returns-then-number_at-ne0 : goal.returns-then-number_at-ne0
returns-then-number_at-ne0 c = (c.loop-i.invariant.0, c.loop-i.invariant.2)

pub offset_bounds-jumps-i : goal.offset_bounds-jumps-i
offset_bounds-jumps-i c = omega (arith, c.loop-i-test.true, c.requires.0)

pub bounds-jumps-i : goal.bounds-jumps-i
bounds-jumps-i c = omega (arith, c.loop-i-test.true, c.requires.1, c.loop-i.invariant.1)

pub loop-i-preserved : goal.loop-i-preserved
loop-i-preserved c =
    let a = c.args in (
      omega (arith, c.loop-i-test.true),
      simp length-set c.loop-i.invariant.1,
      λ v s l m used x.
          let n = none_is v s a.rules.now l m used a.count c.loop-i.i x c.loop-i-test.true (sym c.number_at.ensures.0 ∙ c.if-number_at-ne0.false) in
          let u = c.loop-i.invariant.2 v s l m used x in (
            u.0 ∙ settle-on v s a.rules.now c.loop-i.i a.count c.loop-i-test.true 0 n,
            put v s a.rules.now a.count c.loop-i.jumps c.loop-i.i 0 (omega (arith, c.loop-i-test.true, c.requires.1, c.loop-i.invariant.1)) u.1 n,
          ),
    )

pub shape_of-jumps : goal.shape_of-jumps
shape_of-jumps c = c.loop-i.invariant.1

pub returns : goal.returns
returns c = let q : c.loop-i.i ≡ c.args.count = omega (arith, c.loop-i.invariant.0, c.loop-i-test.false) in (omega arith, rw q at c.loop-i.invariant.2)
