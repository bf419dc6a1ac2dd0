-- `reader::read_lines` meets its contract.
use mathlib.Core.Path.{refl}
use Rattle.std.proofs.lemmas.Result.{err_from_is_err_and}
use Rattle.reader.proofs.read_lines.Goals as goal

pub returns-in_err-place : goal.returns-in_err-place
returns-in_err-place c =
    let p = err_from_is_err_and c.from_residual.result c.from_residual.ensures.1 in
    let t = c.in_err-place.ensures in
    rw (p.1, p.2) (t.1, t.2)

pub returns : goal.returns
returns c =
    let t = c.in_ok-place.ensures in
    (t.1 refl, t.0.few, t.0.rows, t.0.rules)
