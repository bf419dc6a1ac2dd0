use mathlib.Core.Path.{refl, sym, ◌∙◌}
use Rattle.plan_due.specs.Due.{is_fair}
use Rattle.plan_due.proofs.Fair.{all-not, all-next, all_end}
use native.Mathlib.Omega.{arith}
use Rattle.plan_due.proofs.all_fair.Goals as goal

pub loop-b-init : goal.loop-b-init
loop-b-init c = refl

pub returns-then-not-is_fair : goal.returns-then-not-is_fair
returns-then-not-is_fair c =
    sym (all-not (is_fair c.args.marks.now) c.args.x.now c.loop-b.b-index (omega (arith, c.loop-b-test.true)) (sym c.is_fair.ensures ∙ c.if-not-is_fair.true)) ∙ c.loop-b.invariant

pub loop-b-preserved : goal.loop-b-preserved
loop-b-preserved c =
    sym (all-next (is_fair c.args.marks.now) c.args.x.now c.loop-b.b-index (omega (arith, c.loop-b-test.true)) (sym c.is_fair.ensures ∙ c.if-not-is_fair.false)) ∙ c.loop-b.invariant

pub returns : goal.returns
returns c = sym (all_end (is_fair c.args.marks.now) c.args.x.now c.loop-b.b-index (omega (arith, c.loop-b-test.false))) ∙ c.loop-b.invariant
