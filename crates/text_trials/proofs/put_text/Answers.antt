use Prim.Native.Nat.{◌-◌}
use mathlib.Core.Path.{refl, ◌∙◌}
use native.Mathlib.Omega.{arith}
use Rattle.text_trials.proofs.put_text.Goals as goal

pub loop-at-init : goal.loop-at-init
loop-at-init c = (omega arith, omega arith, refl)

pub slice_bounds-put_parts-count : goal.slice_bounds-put_parts-count
slice_bounds-put_parts-count c = omega (arith, c.byte_end-end.ensures.from, c.byte_end-end.ensures.within)

pub slice_bounds-put_parts-start : goal.slice_bounds-put_parts-start
slice_bounds-put_parts-start c = omega (arith, c.byte_end-end.ensures.from, c.byte_end-end.ensures.within)

pub slice_bounds-put_parts-end : goal.slice_bounds-put_parts-end
slice_bounds-put_parts-end c = omega (arith, c.byte_end-end.ensures.from, c.byte_end-end.ensures.within)

pub overflow_add-at : goal.overflow_add-at
overflow_add-at c = omega (arith, c.byte_end-end.ensures.from, c.byte_end-end.ensures.within)

pub loop-at-smaller : goal.loop-at-smaller
loop-at-smaller c = omega (arith, c.byte_end-end.ensures.from, c.byte_end-end.ensures.within)

pub loop-at-preserved : goal.loop-at-preserved
loop-at-preserved c =
    let loop = c.loop-at in
    let byte-end = c.byte_end-end in
    let put-parts = c.put_parts-n in
    (omega (arith, byte-end.ensures.from, byte-end.ensures.within), put-parts.ensures, put-parts.auto.text ∙ loop.invariant.2)

pub shape_of-text : goal.shape_of-text
shape_of-text c = c.loop-at.invariant.2
