use Prim.Native.Nat.{◌-◌}
use mathlib.Core.Path.{refl, sym, ◌∙◌}
use native.Mathlib.Omega.{arith}
use Rattle.lists.proofs.Rest.{byte_in}
use Rattle.text_trials.proofs.put_parts.Goals as goal

pub shape_of-text-then-byte_at-ne42 : goal.shape_of-text-then-byte_at-ne42
shape_of-text-then-byte_at-ne42 c = c.put_part.auto.text

pub returns-then-byte_at-ne42 : goal.returns-then-byte_at-ne42
returns-then-byte_at-ne42 c = c.put_part.ensures

pub slice_bounds-number_of-count : goal.slice_bounds-number_of-count
slice_bounds-number_of-count c = omega (arith, c.digit_end-end.ensures.within)

pub slice_bounds-number_of-start : goal.slice_bounds-number_of-start
slice_bounds-number_of-start c = omega (arith, c.digit_end-end.ensures.within)

pub slice_bounds-number_of-end : goal.slice_bounds-number_of-end
slice_bounds-number_of-end c = omega (arith, c.digit_end-end.ensures.within)

pub loop-turn-init : goal.loop-turn-init
loop-turn-init c = (omega arith, refl)

pub overflow_add-end : goal.overflow_add-end
overflow_add-end c =
    let x = c.args in
    omega (arith, byte_in x.part.now c.digit_end-end.result 42 (sym c.byte_at.ensures ∙ c.if-byte_at-ne42.false) (omega arith))

pub slice_bounds-put_part-count : goal.slice_bounds-put_part-count
slice_bounds-put_part-count c =
    let x = c.args in
    omega (arith, byte_in x.part.now c.digit_end-end.result 42 (sym c.byte_at.ensures ∙ c.if-byte_at-ne42.false) (omega arith))

pub slice_bounds-put_part-start : goal.slice_bounds-put_part-start
slice_bounds-put_part-start c =
    let x = c.args in
    omega (arith, byte_in x.part.now c.digit_end-end.result 42 (sym c.byte_at.ensures ∙ c.if-byte_at-ne42.false) (omega arith))

pub slice_bounds-put_part-end : goal.slice_bounds-put_part-end
slice_bounds-put_part-end c =
    let x = c.args in
    omega (arith, byte_in x.part.now c.digit_end-end.result 42 (sym c.byte_at.ensures ∙ c.if-byte_at-ne42.false) (omega arith))

pub loop-turn-preserved : goal.loop-turn-preserved
loop-turn-preserved c = (c.put_part-m.ensures, c.put_part-m.auto.text ∙ c.loop-turn.invariant.1)

pub shape_of-text : goal.shape_of-text
shape_of-text c = c.loop-turn.invariant.1
