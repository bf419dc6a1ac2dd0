-- `assign_lists::assign_tag` meets its contract.
use native.Mathlib.Omega.{arith}
use Rattle.std.proofs.lemmas.Result.{err_from_is_err_and}
use Rattle.std.specs.Prelude.{Some}
use Rattle.engine.specs.Assign.{change_tags, tagged}
use Rattle.outcome_fields.specs.declared.Closable.TheVariants as closable
use Rattle.outcome.specs.Change.{with_tags}
use Rattle.outcome_target.specs.Held.{Left}
use Rattle.outcome_target.specs.declared.Section.TheVariants.{Tags}
use Rattle.records.proofs.Refused.{none_there}
use Rattle.assign_operators.proofs.Operators.{done-says, full_says}
use Rattle.assign_operators.specs.Begun.{begun}
use Rattle.assign_lists.proofs.Lists.{tag_whole}
use Rattle.keys.specs.Table.{operator_of}
use Rattle.assign_lists.proofs.assign_tag.Goals as goal

pub change_tags-requires : goal.change_tags-requires
change_tags-requires c =
    let a = c.args in
    let (n, s, h) = c.requires.0 in
    ((n, begun Tags (operator_of a.operator) s, c.begin-begun.ensures n s h), c.requires.1, c.requires.2)

pub returns-in_err-left : goal.returns-in_err-left
returns-in_err-left c =
    let a = c.args in
    let p = err_from_is_err_and c.from_residual.result c.from_residual.ensures.1 in
    let none = none_there _ _ _ c.in_err-left.ensures.value in
    rw (p.1, p.2, none.1)
    (λ q e f n s h.
    full_says n (with_tags (begun Tags (operator_of a.operator) s))
    (change_tags (operator_of a.operator) a.value.now (begun Tags (operator_of a.operator) s).tags) _
    c.change_tags.result (c.change_tags.ensures n (begun Tags (operator_of a.operator) s) (c.begin-begun.ensures n s h))
    (operator_of a.operator) closable.Tags (tagged q s) (tag_whole (operator_of a.operator) a.value.now s q e f)
    none.0)

pub finish-requires : goal.finish-requires
finish-requires c =
    let a = c.args in
    let (n, s, h) = c.requires.0 in
    let w : Left n (with_tags (begun Tags (operator_of a.operator) s)) (change_tags (operator_of a.operator) a.value.now (begun Tags (operator_of a.operator) s).tags) _ (Some c.in_ok-left.left) =
    rw c.in_ok-left.ensures.ok_part at (c.change_tags.ensures n (begun Tags (operator_of a.operator) s) (c.begin-begun.ensures n s h)) in
    let (x, e, z) = w in
    omega (arith, z.room)

pub returns : goal.returns
returns c =
    let a = c.args in
    λ q e f n s h.
    done-says n (with_tags (begun Tags (operator_of a.operator) s))
    (change_tags (operator_of a.operator) a.value.now (begun Tags (operator_of a.operator) s).tags) _
    c.change_tags.result (c.change_tags.ensures n (begun Tags (operator_of a.operator) s) (c.begin-begun.ensures n s h))
    (operator_of a.operator) closable.Tags (tagged q s) (tag_whole (operator_of a.operator) a.value.now s q e f)
    c.in_ok-left.left c.in_ok-left.ensures.ok_part _ c.finish.ensures
