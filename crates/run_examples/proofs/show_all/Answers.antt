use Rattle.std.proofs.Common.{◌-◌, arith}
use Rattle.run_examples.proofs.show_all.Goals as goal

pub overflow_add-at : goal.overflow_add-at
overflow_add-at c = omega (arith, c.byte_end-end.ensures.within)

pub loop-at-smaller : goal.loop-at-smaller
loop-at-smaller c = omega (arith, c.byte_end-end.ensures.from)

pub loop-at-preserved : goal.loop-at-preserved
loop-at-preserved c =
    let byte-end = c.byte_end-end in
    omega (arith, byte-end.ensures.from, byte-end.ensures.within)
