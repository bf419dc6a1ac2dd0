use Prim.Native.Nat.{◌-◌}
use native.Mathlib.Omega.{arith}
use Rattle.pieces_examples.proofs.show_all.Goals as goal

pub slice_bounds-show_name-count : goal.slice_bounds-show_name-count
slice_bounds-show_name-count c =
    let byte-end = c.byte_end-end in
    omega (arith, byte-end.ensures.from, byte-end.ensures.within)

pub slice_bounds-show_name-start : goal.slice_bounds-show_name-start
slice_bounds-show_name-start c =
    let byte-end = c.byte_end-end in
    omega (arith, byte-end.ensures.from, byte-end.ensures.within)

pub slice_bounds-show_name-end : goal.slice_bounds-show_name-end
slice_bounds-show_name-end c =
    let byte-end = c.byte_end-end in
    omega (arith, byte-end.ensures.from, byte-end.ensures.within)

pub slice_bounds-show_template-count : goal.slice_bounds-show_template-count
slice_bounds-show_template-count c =
    let byte-end = c.byte_end-end in
    omega (arith, byte-end.ensures.from, byte-end.ensures.within)

pub slice_bounds-show_template-start : goal.slice_bounds-show_template-start
slice_bounds-show_template-start c =
    let byte-end = c.byte_end-end in
    omega (arith, byte-end.ensures.from, byte-end.ensures.within)

pub slice_bounds-show_template-end : goal.slice_bounds-show_template-end
slice_bounds-show_template-end c =
    let byte-end = c.byte_end-end in
    omega (arith, byte-end.ensures.from, byte-end.ensures.within)

pub overflow_add-at : goal.overflow_add-at
overflow_add-at c =
    let byte-end = c.byte_end-end in
    omega (arith, byte-end.ensures.from, byte-end.ensures.within)

pub loop-at-smaller : goal.loop-at-smaller
loop-at-smaller c =
    let byte-end = c.byte_end-end in
    omega (arith, byte-end.ensures.from, byte-end.ensures.within)

pub loop-at-preserved : goal.loop-at-preserved
loop-at-preserved c =
    let byte-end = c.byte_end-end in
    omega (arith, byte-end.ensures.from, byte-end.ensures.within)
