use Prim.Native.Nat.{◌-◌}
use native.Mathlib.Omega.{arith}
use Rattle.glob_examples.proofs.show_all.Goals as goal

pub slice_bounds-show-count : goal.slice_bounds-show-count
slice_bounds-show-count c = omega (arith, c.run_end-end.ensures.from)

pub slice_bounds-show-start : goal.slice_bounds-show-start
slice_bounds-show-start c = omega (arith, c.run_end-end.ensures.from)

pub slice_bounds-show-end : goal.slice_bounds-show-end
slice_bounds-show-end c = omega (arith, c.run_end-end.ensures.from, c.run_end-end.ensures.within)

pub overflow_add-at : goal.overflow_add-at
overflow_add-at c = omega (arith, c.run_end-end.ensures.within)

pub loop-at-smaller : goal.loop-at-smaller
loop-at-smaller c = omega (arith, c.run_end-end.ensures.from)

pub loop-at-preserved : goal.loop-at-preserved
loop-at-preserved c =
    let byte-end = c.run_end-end in
    omega (arith, byte-end.ensures.from, byte-end.ensures.within)
