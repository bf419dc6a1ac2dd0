-- `assign_owner::set_mode` meets its contract.
use mathlib.Core.Path.{sym, ap, subst, ◌∙◌}
use mathlib.Core.Bool.{false, not}
use native.Mathlib.Omega.{arith}
use Rattle.std.proofs.lemmas.Result.{err_from_is_err_and}
use Rattle.std.specs.Prelude.{Some}
use Rattle.keys.specs.Table.{operator_of}
use Rattle.refusals.specs.declared.Refusal.TheVariants.{ModeBad, ModeShared}
use Rattle.content.specs.Mode.{Small}
use Rattle.records.proofs.Refused.{none_there}
use Rattle.assign_owner.proofs.Owners.{mode-sound, mode_shared, mode-faulty, mode-done, mode-refused}
use Rattle.assign_owner.proofs.set_mode.Goals as goal

pub returns-in_err-mode : goal.returns-in_err-mode
returns-in_err-mode c =
    let a = c.args in
    let p = err_from_is_err_and c.from_residual.result c.from_residual.ensures.1 in
    let none = none_there _ _ _ c.in_err-mode.ensures.value in
    rw (p.1, p.2, none.1)
    (mode-refused (operator_of a.operator) a.x.now a.t.now a.layout ModeBad
    (mode-faulty a.x.now c.mode_of.result c.mode_of.ensures.0 none.0))

pub returns-then-others_write : goal.returns-then-others_write
returns-then-others_write c =
    let a = c.args in
    let shared = sym c.others_write.ensures ∙ c.if-others_write.true in
    mode-refused (operator_of a.operator) a.x.now a.t.now a.layout ModeShared
    (mode_shared a.x.now c.mode_of.result c.mode_of.ensures.0 c.in_ok-mode.mode c.in_ok-mode.ensures.ok_part shared)

pub set_mode-requires : goal.set_mode-requires
set_mode-requires c =
    let (n, s, h) = c.requires in
    let small : Small (Some c.in_ok-mode.mode) = subst Small c.in_ok-mode.ensures.ok_part c.mode_of.ensures.1 in
    (omega (arith, h.room), record { small = small; kept = ap not (sym c.others_write.ensures ∙ c.if-others_write.false) })

pub finish-requires : goal.finish-requires
finish-requires c =
    let (n, s, h) = c.requires in
    omega (arith, (c.set_mode.ensures n c.args.layout s h).room)

pub returns : goal.returns
returns c =
    let a = c.args in
    mode-done (operator_of a.operator) a.x.now a.t.now a.layout c.in_ok-mode.mode
    (mode-sound a.x.now c.mode_of.result c.mode_of.ensures.0 c.in_ok-mode.mode c.in_ok-mode.ensures.ok_part (sym c.others_write.ensures ∙ c.if-others_write.false))
    _ c.set_mode.ensures _ c.finish.ensures
