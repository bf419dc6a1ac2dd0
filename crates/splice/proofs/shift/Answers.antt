-- `splice::shift` meets its contract: a part that goes on is an opened gap, one that comes back a removal.
use mathlib.Core.Path.{◌∙◌}
use native.Mathlib.Omega.{arith}
use Rattle.splice.proofs.Laws.{opened-shifted, removed-shifted, same-shifted}
use Rattle.splice.proofs.shift.Goals as goal

pub returns-then-from-to : goal.returns-then-from-to
returns-then-from-to c =
    let entry = c.args in
    let open-gap = c.open_gap in
    let a = entry in open-gap.ensures ∙ opened-shifted a.t.now a.from a.to a.used (omega arith)

pub returns-then-to-from : goal.returns-then-to-from
returns-then-to-from c =
    let entry = c.args in
    let remove = c.remove in
    let a = entry in remove.ensures ∙ removed-shifted a.t.now a.from a.to a.used (omega arith)

pub returns-else-to-from : goal.returns-else-to-from
returns-else-to-from c = let a = c.args in same-shifted a.t.now a.from a.to a.used (omega arith) (omega arith)
