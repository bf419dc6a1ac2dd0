-- `set_rows::long_in` meets its contract.
use mathlib.Core.Path.{refl}
use native.Mathlib.Omega.{arith}
use Rattle.set_rows.proofs.Longs.{length_read, long-is, long-fits}
use Rattle.set_rows.proofs.long_in.Goals as goal

pub slice_bounds-length_in-end : goal.slice_bounds-length_in-end
slice_bounds-length_in-end c =
    let entry = c.args in
    let pre = c.requires in
    omega (arith, long-fits entry.set.now entry.p (pre))

pub returns : goal.returns
returns c =
    let entry = c.args in
    let length-in = c.length_in in
    let pre = c.requires in
    let n = length_read entry.set.now entry.p length-in.result length-in.ensures.0 in
    long-is entry.set.now entry.p pre.within _ refl (omega (arith, n)) (omega (arith, long-fits entry.set.now entry.p (pre), n))
