-- `file_rows::name_in` meets its contract.
use mathlib.Core.Path.{refl}
use Rattle.file_rows.proofs.Names.{name-fits, name-is}
use native.Mathlib.Omega.{arith}
use Rattle.file_rows.proofs.name_in.Goals as goal

pub bounds-set-p : goal.bounds-set-p
bounds-set-p c =
    let entry = c.args in
    let pre = c.requires in
    omega (arith, (name-fits entry.set.now entry.p pre).some)

pub overflow_add-result : goal.overflow_add-result
overflow_add-result c =
    let entry = c.args in
    let pre = c.requires in
    let wide = c.from in
    omega (arith, (name-fits entry.set.now entry.p pre).within, wide.ensures)

pub returns : goal.returns
returns c =
    let entry = c.args in
    let pre = c.requires in
    let wide = c.from in
    let fits = name-fits entry.set.now entry.p pre in
    name-is entry.set.now entry.p fits.some _ refl (omega (arith, wide.ensures)) (omega (arith, fits.within, wide.ensures)) fits.least fits.most
