-- `step::step_at` meets its contract.
use Prim.Native.Nat.{◌-◌}
use mathlib.Core.Path.{refl, ap}
use Rattle.std.specs.Prelude.{Ok, Err}
use Rattle.std.proofs.lemmas.Result.{err_from_is_err_and}
use Rattle.lists.proofs.Lists.{is-some}
use Rattle.sheet.specs.Sheet.{decode}
use Rattle.table.specs.Table.{pairs_from}
use Rattle.step.proofs.Rules.{asked-state, asked-left, assign-refused, asked_failed, asked-refused}
use Rattle.step.proofs.step_at.Goals as goal

pub assign_all-requires : goal.assign_all-requires
assign_all-requires c =
    let x = c.args in
    let (d, s, h) = c.requires.1 in
    let (a, is) = is-some (decode x.sheet.now) c.requires.3 in
    let (s₁, h₁) = asked-state a d x.place (pairs_from x.values.now x.rows.now x.from (x.to - x.from)) x.dev.now x.chain x.t.now x.layout x.sheet.now is s h c.judge.new.t (Ok c.in_ok-asked.asked) c.in_ok-asked.ensures c.in-Held.held (ap Ok c.in-Held.is) in
    (c.requires.0, (d, s₁, h₁), c.requires.2)

pub returns-in-Ok : goal.returns-in-Ok
returns-in-Ok c =
    let x = c.args in
    let rows = pairs_from x.values.now x.rows.now x.from (x.to - x.from) in
    let assign-all = c.assign_all in
    λ a is d s h. asked-left a d x.place rows x.dev.now x.chain x.t.now x.layout x.sheet.now is s h c.judge.new.t (Ok c.in_ok-asked.asked) c.in_ok-asked.ensures c.in-Held.held (ap Ok c.in-Held.is) _ assign-all.result (λ s₁ h₁. assign-all.ensures d s₁ h₁) _ c.in-Ok.is

pub returns-in-Err : goal.returns-in-Err
returns-in-Err c =
    let x = c.args in
    let rows = pairs_from x.values.now x.rows.now x.from (x.to - x.from) in
    let assign-all = c.assign_all in
    λ a is d s h. assign-refused a d x.place rows x.dev.now x.chain x.t.now x.layout x.sheet.now is s h c.judge.new.t (Ok c.in_ok-asked.asked) c.in_ok-asked.ensures c.in-Held.held (ap Ok c.in-Held.is) _ assign-all.result (λ s₁ h₁. assign-all.ensures d s₁ h₁) _ c.in-Err.is

pub returns-in-Failed : goal.returns-in-Failed
returns-in-Failed c =
    let x = c.args in
    λ a is d s h. asked_failed a d x.place (pairs_from x.values.now x.rows.now x.from (x.to - x.from)) x.dev.now x.chain x.t.now x.layout x.sheet.now is s h c.judge.new.t (Ok c.in_ok-asked.asked) c.in_ok-asked.ensures c.in-Failed.left (ap Ok c.in-Failed.is)

pub returns-in_err-asked : goal.returns-in_err-asked
returns-in_err-asked c =
    let x = c.args in
    let p = err_from_is_err_and c.from_residual.result c.from_residual.ensures.1 in
    rw (p.1, p.2) (λ a is d s h. asked-refused a d x.place (pairs_from x.values.now x.rows.now x.from (x.to - x.from)) x.dev.now x.chain x.t.now x.layout x.sheet.now is s h c.judge.new.t (Err c.in_err-asked.field-0.0) c.in_err-asked.ensures c.in_err-asked.field-0.0 refl)
