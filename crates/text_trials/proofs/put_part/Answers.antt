use Prim.Native.Nat.{◌-◌}
use mathlib.Core.Path.{refl, ◌∙◌}
use native.Mathlib.Omega.{arith}
use Rattle.text_trials.proofs.put_part.Goals as goal

pub loop-i-init : goal.loop-i-init
loop-i-init c = (omega arith, omega arith, refl)

pub loop-i-preserved-then-part-i-eq126 : goal.loop-i-preserved-then-part-i-eq126
loop-i-preserved-then-part-i-eq126 c = (omega arith, c.put_named-m.ensures, c.put_named-m.auto.text ∙ c.loop-i.invariant.2)

pub loop-i-preserved : goal.loop-i-preserved
loop-i-preserved c = (omega arith, c.put-m.ensures, c.put-m.auto.text ∙ c.loop-i.invariant.2)

pub shape_of-text : goal.shape_of-text
shape_of-text c = c.loop-i.invariant.2
