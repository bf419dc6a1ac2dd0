-- `assign_owner::set_owner` meets its contract.
use native.Mathlib.Omega.{arith}
use Rattle.std.proofs.lemmas.Result.{err_from_is_err_and}
use Rattle.assign_owner.proofs.Owners.{owner_bad, owner-done}
use Rattle.outcome_fields.specs.declared.Closable.TheVariants as closable
use Rattle.outcome.specs.Change.{with_owner}
use Rattle.keys.specs.Table.{operator_of}
use Rattle.assign_owner.proofs.set_owner.Goals as goal

pub returns-in_err-judge_owner : goal.returns-in_err-judge_owner
returns-in_err-judge_owner c =
    let a = c.args in
    let p = err_from_is_err_and c.from_residual.result c.from_residual.ensures.1 in
    rw (p.1, p.2, c.in_err-judge_owner.ensures.1) (owner_bad with_owner (operator_of a.operator) closable.Owner a.x.now a.t.now a.layout c.in_err-judge_owner.ensures.0)

pub set_owner-left-requires : goal.set_owner-left-requires
set_owner-left-requires c = (c.requires, c.in_ok-judge_owner.ensures.1)

pub finish-requires : goal.finish-requires
finish-requires c = let (n, s, h) = c.requires in omega (arith, (c.set_owner-left.ensures n s h).room)

pub returns : goal.returns
returns c =
    let a = c.args in
    owner-done with_owner (operator_of a.operator) closable.Owner a.x.now a.t.now a.layout c.in_ok-judge_owner.ensures.0
    _ c.set_owner-left.result c.set_owner-left.ensures _ c.finish.ensures
