-- `assign_key::assign` meets its contract.
use Prim.Native.Nat.{ℕ}
use mathlib.Core.List.{List}
use mathlib.Core.Path.{◌≡◌, sym, subst, ap, ◌∙◌}
use lib.ListN.{length}
use Rattle.std.proofs.lemmas.Result.{err_from_is_err_and}
use Rattle.std.specs.Prelude.{Option, None, Some}
use Rattle.engine.specs.Assign.{set_by, valued}
use Rattle.rules.specs.Setting.{setting_of}
use Rattle.lists.specs.Checked.{ok}
use Rattle.assign_key.proofs.Keys.{assigned-to, change_left, change_refused}
use Rattle.assign_key.specs.declared.Assignee.TheVariants as assignee
use Rattle.assign_key.specs.declared.Assignee.{Assignee}
use Rattle.assign_key.specs.Keys.{FitsTo, work_of, closable_change}
use Rattle.assign_env.specs.Env.{escape_of}
use Rattle.outcome_fields.specs.Fields.{flag}
use Rattle.device.specs.Device.{chain}
use Rattle.keys.specs.Table.{key_of}
use Rattle.assign_key.proofs.assign.Goals as goal

pub assign_closable-requires : goal.assign_closable-requires
assign_closable-requires c =
    let x = c.args in
    let closable : c.assignee_of.result ≡ Some (assignee.Closable c.in-Some-Closable.closable) = cc in (
      c.requires.0,
      c.requires.1,
      c.requires.2,
      c.requires.3,
      subst (λ (a : Option Assignee). FitsTo a x.argument.now x.value.now) (sym c.assignee_of.ensures ∙ closable) c.requires.4,
    )

pub assign_property-requires : goal.assign_property-requires
assign_property-requires c =
    let x = c.args in
    let property : c.assignee_of.result ≡ Some assignee.Property = cc in
    let (d, s, h) = c.requires.0 in (
      (length (chain d), s, h.held),
      subst (λ (a : Option Assignee). FitsTo a x.argument.now x.value.now) (sym c.assignee_of.ensures ∙ property) c.requires.4,
      c.requires.2,
      c.requires.3,
    )

pub assign_option-requires : goal.assign_option-requires
assign_option-requires c = let (d, s, h) = c.requires.0 in (length (chain d), s, h.held)

pub returns-in-Some-Option : goal.returns-in-Some-Option
returns-in-Some-Option c =
    let x = c.args in
    λ p i d s h.
    let (s', e, z) = c.assign_option.ensures (length (chain d)) s h.held in (
      s',
      assigned-to d x.place p (work_of s x.work.escape) (key_of x.key) (Some assignee.Option) c.assignee_of.result c.assignee_of.ensures (cc)
          ∙ ap (λ (v : List ℕ). ok (set_by (setting_of v) (work_of s x.work.escape))) i.value
          ∙ ap ok e,
      z,
    )

pub returns-in-None : goal.returns-in-None
returns-in-None c =
    let x = c.args in
    λ p i d s h. (s, assigned-to d x.place p (work_of s x.work.escape) (key_of x.key) None c.assignee_of.result c.assignee_of.ensures c.in-None.is, h.held)

pub returns-in_err-layout-in-Some-Closable : goal.returns-in_err-layout-in-Some-Closable
returns-in_err-layout-in-Some-Closable c =
    let x = c.args in
    let k = c.in-Some-Closable.closable in
    let p = err_from_is_err_and c.from_residual.result c.from_residual.ensures.1 in
    rw (p.1, p.2)
    (λ q i d s h.
    change_refused (length (chain d)) c.assign_closable.new.t s x.work.escape (closable_change (flag k s.closed) k d x.place q (work_of s x.work.escape)) _
    (assigned-to d x.place q (work_of s x.work.escape) (key_of x.key) (Some (assignee.Closable k)) c.assignee_of.result c.assignee_of.ensures (cc))
    c.in_err-layout-in-Some-Closable.field-0.0 (c.in_err-layout-in-Some-Closable.ensures q i d s h))

pub returns-in_ok-layout-in-Some-Closable : goal.returns-in_ok-layout-in-Some-Closable
returns-in_ok-layout-in-Some-Closable c =
    let x = c.args in
    let k = c.in-Some-Closable.closable in
    λ q i d s h.
    change_left (length (chain d)) c.assign_closable.new.t s x.work.escape (closable_change (flag k s.closed) k d x.place q (work_of s x.work.escape)) _
    (assigned-to d x.place q (work_of s x.work.escape) (key_of x.key) (Some (assignee.Closable k)) c.assignee_of.result c.assignee_of.ensures (cc))
    c.in_ok-layout-in-Some-Closable.layout (c.in_ok-layout-in-Some-Closable.ensures q i d s h)

pub returns-in_err-layout-in-Some-Property : goal.returns-in_err-layout-in-Some-Property
returns-in_err-layout-in-Some-Property c =
    let x = c.args in
    let p = err_from_is_err_and c.from_residual-in_err-layout-in-Some-Property.result c.from_residual-in_err-layout-in-Some-Property.ensures.1 in
    rw (p.1, p.2)
    (λ q i d s h.
    change_refused (length (chain d)) c.assign_property.new.t s x.work.escape (valued (escape_of x.work.escape) q s) _
    (assigned-to d x.place q (work_of s x.work.escape) (key_of x.key) (Some assignee.Property) c.assignee_of.result c.assignee_of.ensures (cc))
    c.in_err-layout-in-Some-Property.field-0.0 (c.in_err-layout-in-Some-Property.ensures q i.argument i.value (length (chain d)) s h.held))

pub returns-in_ok-layout-in-Some-Property : goal.returns-in_ok-layout-in-Some-Property
returns-in_ok-layout-in-Some-Property c =
    let x = c.args in
    λ q i d s h.
    change_left (length (chain d)) c.assign_property.new.t s x.work.escape (valued (escape_of x.work.escape) q s) _
    (assigned-to d x.place q (work_of s x.work.escape) (key_of x.key) (Some assignee.Property) c.assignee_of.result c.assignee_of.ensures (cc))
    c.in_ok-layout-in-Some-Property.layout (c.in_ok-layout-in-Some-Property.ensures q i.argument i.value (length (chain d)) s h.held)
