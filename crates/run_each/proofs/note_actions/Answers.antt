-- `run_each::note_actions` meets its contract.
use mathlib.Core.Path.{refl, sym, subst}
use native.Mathlib.Omega.{arith}
use Rattle.run_each.specs.Runs.{Readable, Noted}
use Rattle.run_each.proofs.note_actions.Goals as goal

pub put_actions-requires : goal.put_actions-requires
put_actions-requires c =
    let x = c.args in
    let (v, (js, readable)) = c.requires in
    let runnable = subst (Readable v x.rows.now x.rules.now js) c.in-Ok.is readable in
    (runnable.few, runnable.rules_room, λ i h. ((runnable.rules i h).ordered, omega (arith, (runnable.rules i h).rows.room)))

pub returns-in-Ok : goal.returns-in-Ok
returns-in-Ok c =
    let x = c.args in
    subst (Noted x.rows.now x.rules.now _) (sym c.in-Ok.is) c.put_actions.ensures

pub returns-in-Err : goal.returns-in-Err
returns-in-Err c =
    let x = c.args in
    subst (Noted x.rows.now x.rules.now x.rules.now) (sym c.in-Err.is) refl
