-- `assign_owner::set_group` meets its contract.
use native.Mathlib.Omega.{arith}
use Rattle.std.proofs.lemmas.Result.{err_from_is_err_and}
use Rattle.assign_owner.proofs.Owners.{owner_bad, owner-done}
use Rattle.outcome_fields.specs.declared.Closable.TheVariants as closable
use Rattle.outcome.specs.Change.{with_group}
use Rattle.keys.specs.Table.{operator_of}
use Rattle.assign_owner.proofs.set_group.Goals as goal

pub returns-in_err-judge_owner : goal.returns-in_err-judge_owner
returns-in_err-judge_owner c =
    let a = c.args in
    let p = err_from_is_err_and c.from_residual.result c.from_residual.ensures.1 in
    rw (p.1, p.2, c.in_err-judge_owner.ensures.1) (owner_bad with_group (operator_of a.operator) closable.Group a.x.now a.t.now a.layout c.in_err-judge_owner.ensures.0)

pub set_group-left-requires : goal.set_group-left-requires
set_group-left-requires c = (c.requires, c.in_ok-judge_owner.ensures.1)

pub finish-requires : goal.finish-requires
finish-requires c = let (n, s, h) = c.requires in omega (arith, (c.set_group-left.ensures n s h).room)

pub returns : goal.returns
returns c =
    let a = c.args in
    owner-done with_group (operator_of a.operator) closable.Group a.x.now a.t.now a.layout c.in_ok-judge_owner.ensures.0
    _ c.set_group-left.result c.set_group-left.ensures _ c.finish.ensures
