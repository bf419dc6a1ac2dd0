use Prim.Native.Nat.{◌-◌}
use mathlib.Core.Path.{refl, ◌∙◌}
use native.Mathlib.Omega.{arith}
use Rattle.text_trials.proofs.show_all.Goals as goal

pub loop-at-init : goal.loop-at-init
loop-at-init c = (omega arith, refl)

pub slice_bounds-show-count : goal.slice_bounds-show-count
slice_bounds-show-count c = omega (arith, c.byte_end-end.ensures.from, c.byte_end-end.ensures.within)

pub slice_bounds-show-start : goal.slice_bounds-show-start
slice_bounds-show-start c = omega (arith, c.byte_end-end.ensures.from, c.byte_end-end.ensures.within)

pub slice_bounds-show-end : goal.slice_bounds-show-end
slice_bounds-show-end c = omega (arith, c.byte_end-end.ensures.from, c.byte_end-end.ensures.within)

pub overflow_add-at : goal.overflow_add-at
overflow_add-at c = omega (arith, c.byte_end-end.ensures.from, c.byte_end-end.ensures.within)

pub loop-at-smaller : goal.loop-at-smaller
loop-at-smaller c = omega (arith, c.byte_end-end.ensures.from, c.byte_end-end.ensures.within)

pub loop-at-preserved : goal.loop-at-preserved
loop-at-preserved c = (omega (arith, c.byte_end-end.ensures.from, c.byte_end-end.ensures.within), c.show.auto.text ∙ c.loop-at.invariant.1)

pub shape_of-text : goal.shape_of-text
shape_of-text c = c.loop-at.invariant.1
