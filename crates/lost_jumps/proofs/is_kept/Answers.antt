-- `lost_jumps::is_kept` meets its contract.
use Prim.Native.Nat.{◌+◌, ◌*◌}
use mathlib.Core.Path.{sym, ◌∙◌}
use borrow.Author.Rules.{rules}
use native.Mathlib.Omega.{arith}
use Rattle.jumps.proofs.Nineteen.{goto_none, goto_places, goto_some}
use Rattle.lost_jumps.proofs.is_kept.Goals as goal

pub returns-in-None : goal.returns-in-None
returns-in-None c =
    let a = c.args in
    let (m, (used, x)) = c.requires.3 in
    rw (goto_none a.values.now a.rows.now a.rules.now a.labels.now m used a.count a.i x c.requires.0 (sym c.in-None.ensures.0))

pub value_of-name-requires : goal.value_of-name-requires
value_of-name-requires c =
    let a = c.args in
    let (m, (used, x)) = c.requires.3 in
    goto_places a.values.now a.rows.now a.rules.now a.labels.now m used a.count a.i x c.requires.0 c.in-Some.row c.in-Some.ensures.0

pub is_answered-requires : goal.is_answered-requires
is_answered-requires c =
    let a = c.args in
    let (m, (used, x)) = c.requires.3 in
    (omega (arith, c.requires.0), c.requires.1, (a.rules.now, (m, (used, x))))

pub returns-in-Some : goal.returns-in-Some
returns-in-Some c =
    let a = c.args in
    let (m, (used, x)) = c.requires.3 in
    rw (goto_some a.values.now a.rows.now a.rules.now a.labels.now m used a.count a.i x c.requires.0 c.in-Some.row c.in-Some.ensures.0)
    (rw c.value_of-name.ensures at (c.is_answered.ensures a.rules.now m used x))
