-- `programs::ask_command` meets its contract.
use Prim.Native.Nat.{ℕ, ◌+◌, ◌-◌}
use mathlib.Core.Path.{◌≡◌, sym, subst, ◌∙◌}
use mathlib.Core.Bool.{true}
use native.Mathlib.Omega.{arith}
use lib.ListN.{take, drop}
use Rattle.std.proofs.lemmas.Result.{err_from_is_err_and}
use Rattle.lists.proofs.Lists.{is-some}
use Rattle.keys.specs.Table.{operator_of}
use Rattle.outcome.specs.Content.{ok_output}
use Rattle.outcome_target.specs.Held.{Changed}
use Rattle.records.proofs.Refused.{none_there}
use Rattle.sheet.specs.Sheet.{decode}
use Rattle.sheet_check.specs.Replies.{AnswersTo}
use Rattle.programs.specs.Programs.{stored_by}
use Rattle.programs.proofs.Programs.{told_output, told-within, reply_holds, reply_fails, reply_missing}
use Rattle.programs.proofs.ask_command.Goals as goal

behind : (start len : ℕ) → start + len - start ≡ len
behind start len = omega arith

pub returns-in_err-reply : goal.returns-in_err-reply
returns-in_err-reply c =
    let a = c.args in
    let p = err_from_is_err_and c.from_residual.result c.from_residual.ensures.1 in
    let none = none_there _ _ _ c.in_err-reply.ensures.value in
    rw (p.1, p.2, none.1)
    (reply_missing (operator_of a.operator) a.command.now a.sheet.now (subst (AnswersTo a.command.now a.sheet.now) none.0 c.find.ensures) a.t.now a.layout)

pub overflow_add-output : goal.overflow_add-output
overflow_add-output c =
    let a = c.args in
    let (s, is) = is-some (decode a.sheet.now) c.requires.1 in
    let here = subst (AnswersTo a.command.now a.sheet.now) c.in_ok-reply.ensures.ok_part c.find.ensures in
    omega (arith, told-within (operator_of a.operator) a.command.now a.sheet.now c.in_ok-reply.reply here s is)

pub slice_bounds-output-end : goal.slice_bounds-output-end
slice_bounds-output-end c =
    let a = c.args in
    let (s, is) = is-some (decode a.sheet.now) c.requires.1 in
    let here = subst (AnswersTo a.command.now a.sheet.now) c.in_ok-reply.ensures.ok_part c.find.ensures in
    omega (arith, told-within (operator_of a.operator) a.command.now a.sheet.now c.in_ok-reply.reply here s is)

pub store-left-requires : goal.store-left-requires
store-left-requires c =
    let a = c.args in
    let told = c.in_ok-reply.reply in
    let (s, is) = is-some (decode a.sheet.now) c.requires.1 in
    let here = subst (AnswersTo a.command.now a.sheet.now) c.in_ok-reply.ensures.ok_part c.find.ensures in (
      c.requires.0,
      subst (λ (n : ℕ). ok_output (take n (drop told.start a.sheet.now)) ≡ true) (sym (behind told.start told.len))
          (told_output (operator_of a.operator) a.command.now a.sheet.now told here s is),
    )

pub returns-then-program_holds : goal.returns-then-program_holds
returns-then-program_holds c =
    let a = c.args in
    let told = c.in_ok-reply.reply in
    let store = c.store-left in
    let here = subst (AnswersTo a.command.now a.sheet.now) c.in_ok-reply.ensures.ok_part c.find.ensures in
    reply_holds (operator_of a.operator) a.command.now a.sheet.now told here a.t.now a.layout _ store.result
    (subst (λ (n : ℕ). Changed (stored_by told.success (take n (drop told.start a.sheet.now))) a.t.now a.layout store.new.t store.result) (behind told.start told.len) store.ensures)
    (sym c.program_holds.ensures ∙ c.if-program_holds.true)

pub returns-else-program_holds : goal.returns-else-program_holds
returns-else-program_holds c =
    let a = c.args in
    let told = c.in_ok-reply.reply in
    let store = c.store-left in
    let here = subst (AnswersTo a.command.now a.sheet.now) c.in_ok-reply.ensures.ok_part c.find.ensures in
    reply_fails (operator_of a.operator) a.command.now a.sheet.now told here a.t.now a.layout _ store.result
    (subst (λ (n : ℕ). Changed (stored_by told.success (take n (drop told.start a.sheet.now))) a.t.now a.layout store.new.t store.result) (behind told.start told.len) store.ensures)
    (sym c.program_holds.ensures ∙ c.if-program_holds.false)
