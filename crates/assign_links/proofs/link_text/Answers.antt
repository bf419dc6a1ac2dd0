-- `assign_links::link_text` meets its contract.
use Rattle.std.specs.Prelude.{Ok, Err}
use Rattle.outcome_target.specs.declared.Section.TheVariants.{Links}
use Rattle.assign_operators.specs.Begun.{begun}
use Rattle.assign_links.proofs.Links.{all_left, all-refused}
use Rattle.link_names.specs.Names.{names}
use Rattle.keys.specs.Table.{operator_of}
use Rattle.std.proofs.lemmas.Result.{err_from_is_err_and}
use mathlib.Core.Path.{refl}
use native.Mathlib.Omega.{arith}
use Rattle.assign_links.proofs.link_text.Goals as goal

pub change_links-requires : goal.change_links-requires
change_links-requires c =
    let pre = c.requires in
    let entry = c.args in
    let begin = c.begin-begun in
    let (n, s, h) = pre.0 in ((n, (begun Links (operator_of entry.operator) s), begin.ensures n s h), pre.1)

pub returns-in_err-left : goal.returns-in_err-left
returns-in_err-left c =
    let a = c.args in
    let p = err_from_is_err_and c.from_residual.result c.from_residual.ensures.1 in
    rw (p.1, p.2)
    (λ n s h.
    all-refused (operator_of a.operator) (names a.text.now) n s c.change_links.new.t (Err c.in_err-left.field-0.0)
    (c.in_err-left.ensures n (begun Links (operator_of a.operator) s) (c.begin-begun.ensures n s h)) c.in_err-left.field-0.0 refl)

pub finish-requires : goal.finish-requires
finish-requires c =
    let a = c.args in
    let (n, s, h) = c.requires.0 in
    let (s', e, z) = c.in_ok-left.ensures n (begun Links (operator_of a.operator) s) (c.begin-begun.ensures n s h) in
    omega (arith, z.room)

pub returns : goal.returns
returns c =
    let a = c.args in
    λ n s h.
    all_left (operator_of a.operator) (names a.text.now) n s c.change_links.new.t (Ok c.in_ok-left.left)
    (c.in_ok-left.ensures n (begun Links (operator_of a.operator) s) (c.begin-begun.ensures n s h)) c.in_ok-left.left refl _ c.finish.ensures
