-- `assign_lists::assign_run` meets its contract.
use native.Mathlib.Omega.{arith}
use Rattle.std.proofs.lemmas.Result.{err_from_is_err_and}
use Rattle.std.specs.Prelude.{Some}
use Rattle.engine.specs.Assign.{queued}
use Rattle.assign_lists.specs.Lists.{queued_runs}
use Rattle.outcome_fields.specs.declared.Closable.TheVariants as closable
use Rattle.outcome.specs.Change.{with_runs}
use Rattle.outcome_target.specs.Held.{Left}
use Rattle.outcome_target.specs.declared.Section.TheVariants.{Runs}
use Rattle.records.proofs.Refused.{none_there}
use Rattle.assign_operators.proofs.Operators.{done-says, full_says}
use Rattle.assign_operators.specs.Begun.{begun}
use Rattle.assign_lists.proofs.Lists.{run-whole}
use Rattle.keys.specs.Table.{operator_of}
use Rattle.assign_lists.proofs.assign_run.Goals as goal

pub begin-begun-requires : goal.begin-begun-requires
begin-begun-requires c = let (n, s, h, k) = c.requires.0 in (n, s, h)

pub change_runs-requires : goal.change_runs-requires
change_runs-requires c =
    let a = c.args in
    let (n, s, h, k) = c.requires.0 in
    ((n, begun Runs (operator_of a.operator) s, c.begin-begun.ensures n s h, k), c.requires.1, c.requires.2, c.requires.3, c.requires.4)

pub returns-in_err-left : goal.returns-in_err-left
returns-in_err-left c =
    let a = c.args in
    let p = err_from_is_err_and c.from_residual.result c.from_residual.ensures.1 in
    let none = none_there _ _ _ c.in_err-left.ensures.value in
    rw (p.1, p.2, none.1)
    (λ q e f g n s h k.
    full_says n (with_runs (begun Runs (operator_of a.operator) s))
    (queued_runs a.builtin a.place a.value.now (begun Runs (operator_of a.operator) s).runs) _
    c.change_runs.result (c.change_runs.ensures n (begun Runs (operator_of a.operator) s) (c.begin-begun.ensures n s h) k)
    (operator_of a.operator) closable.Runs (queued a.place q s)
    (run-whole (operator_of a.operator) a.builtin a.place a.value.now s q e f g) none.0)

pub finish-requires : goal.finish-requires
finish-requires c =
    let a = c.args in
    let (n, s, h, k) = c.requires.0 in
    let w : Left n (with_runs (begun Runs (operator_of a.operator) s)) (queued_runs a.builtin a.place a.value.now (begun Runs (operator_of a.operator) s).runs) _ (Some c.in_ok-left.left) =
    rw c.in_ok-left.ensures.ok_part at (c.change_runs.ensures n (begun Runs (operator_of a.operator) s) (c.begin-begun.ensures n s h) k) in
    let (x, e, z) = w in
    omega (arith, z.room)

pub returns : goal.returns
returns c =
    let a = c.args in
    λ q e f g n s h k.
    done-says n (with_runs (begun Runs (operator_of a.operator) s))
    (queued_runs a.builtin a.place a.value.now (begun Runs (operator_of a.operator) s).runs) _
    c.change_runs.result (c.change_runs.ensures n (begun Runs (operator_of a.operator) s) (c.begin-begun.ensures n s h) k)
    (operator_of a.operator) closable.Runs (queued a.place q s)
    (run-whole (operator_of a.operator) a.builtin a.place a.value.now s q e f g) c.in_ok-left.left
    c.in_ok-left.ensures.ok_part _ c.finish.ensures
