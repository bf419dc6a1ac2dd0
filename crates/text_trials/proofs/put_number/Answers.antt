use Prim.Native.Nat.{◌-◌}
use mathlib.Core.Path.{refl, ◌∙◌}
use native.Mathlib.Omega.{arith}
use Rattle.text_trials.proofs.put_number.Goals as goal

pub loop-i-init : goal.loop-i-init
loop-i-init c = (omega arith, refl)

pub loop-i-preserved : goal.loop-i-preserved
loop-i-preserved c = (c.put-m.ensures, c.put-m.auto.text ∙ c.loop-i.invariant.1)

pub shape_of-text : goal.shape_of-text
shape_of-text c = c.loop-i.invariant.1
