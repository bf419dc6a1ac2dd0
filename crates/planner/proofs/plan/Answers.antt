-- `planner::plan` meets its contract.
use Prim.Native.Nat.{ℕ, ◌≤◌}
use mathlib.Core.List.{List}
use mathlib.Core.Path.{sym, ap, ◌∙◌, subst}
use borrow.Author.Tests.{not-true, not-false}
use lib.ListN.{length}
use Rattle.lists.specs.Sizes.{most_text}
use Rattle.insertion.specs.Append.{Placed}
use Rattle.set_answers.specs.Answers.{answered}
use Rattle.plan.specs.Plan.{plan_text}
use Rattle.plan.proofs.Plans.{plan-fits}
use Rattle.plan_rows.specs.Namings.{namings_in, Whole, JudgedIs}
use Rattle.std.specs.Prelude.{Err}
use Rattle.planner.proofs.Answers.{plan-short, plan-refused, plan-none, plan-made}
use native.Mathlib.Omega.{arith}
use Rattle.planner.proofs.plan.Goals as goal

pub returns-then-target-lt-MOST_TEXT : goal.returns-then-target-lt-MOST_TEXT
returns-then-target-lt-MOST_TEXT c =
    let the-refused = c.refused in
    let clear = c.clear in
    let entry = c.args in
    let if1 = c.if-target-lt-MOST_TEXT in
    ap (answered the-refused.result) clear.ensures ∙ plan-short entry.set.now (length entry.target.now) the-refused.result (omega (arith, if1.true, clear.auto.t)) the-refused.ensures

pub refused-requires-in-Err : goal.refused-requires-in-Err
refused-requires-in-Err c =
    let entry = c.args in
    let judged = c.in-Err in
    let is : JudgedIs entry.set.now (Err judged.fault) = judged.ensures in
    (omega (arith, is.1), omega (arith, is.2))

pub returns-in-Err : goal.returns-in-Err
returns-in-Err c =
    let entry = c.args in
    let judged = c.in-Err in
    let if1 = c.if-target-lt-MOST_TEXT in
    let clear = c.clear in
    let refused2 = c.refused-in-Err in
    let is : JudgedIs entry.set.now (Err judged.fault) = judged.ensures in
    let room : most_text ≤ length entry.target.now = omega (arith, if1.false, clear.auto.t) in
    ap (answered refused2.result) clear.ensures ∙ plan-refused entry.set.now (length entry.target.now) refused2.result room _ is.0 refused2.ensures

pub count_of-n-requires : goal.count_of-n-requires
count_of-n-requires c =
    let entry = c.args in
    let enum_told = c.in_default in
    let whole : Whole entry.set.now = enum_told.ensures in
    whole.some

pub due-requires : goal.due-requires
due-requires c =
    let entry = c.args in
    let enum_told = c.in_default in
    let count_of = c.count_of-n in
    let whole : Whole entry.set.now = enum_told.ensures in
    (whole, count_of.ensures.0 ∙ whole.counted)

pub returns-then-not-due : goal.returns-then-not-due
returns-then-not-due c =
    let entry = c.args in
    let enum_told = c.in_default in
    let if1 = c.if-target-lt-MOST_TEXT in
    let clear = c.clear in
    let the-accepted = c.accepted in
    let due = c.due in
    let if2 = c.if-not-due in
    let whole : Whole entry.set.now = enum_told.ensures in
    let room : most_text ≤ length entry.target.now = omega (arith, if1.false, clear.auto.t) in
    ap (answered the-accepted.result) clear.ensures
    ∙ plan-none entry.set.now (length entry.target.now) the-accepted.result room (namings_in entry.set.now) whole.held (sym due.ensures ∙ if2.true) the-accepted.ensures

pub put_plan-requires : goal.put_plan-requires
put_plan-requires c =
    let entry = c.args in
    let enum_told = c.in_default in
    let due = c.due in
    let if2 = c.if-not-due in
    let count_of = c.count_of-n in
    let if1 = c.if-target-lt-MOST_TEXT in
    let whole : Whole entry.set.now = enum_told.ensures in
    let is-due = sym due.ensures ∙ if2.false in
    let fits = plan-fits entry.set.now (namings_in entry.set.now) whole.held is-due in
    (whole, count_of.ensures.0 ∙ whole.counted, omega (arith, fits, if1.false))

pub accepted-requires-2 : goal.accepted-requires-2
accepted-requires-2 c =
    let entry = c.args in
    let enum_told = c.in_default in
    let due = c.due in
    let if2 = c.if-not-due in
    let put-plan = c.put_plan in
    let whole : Whole entry.set.now = enum_told.ensures in
    let is-due = sym due.ensures ∙ if2.false in
    let fits = plan-fits entry.set.now (namings_in entry.set.now) whole.held is-due in
    (omega arith, omega arith, omega (arith, fits, put-plan.ensures.end), omega arith)

pub returns : goal.returns
returns c =
    let entry = c.args in
    let enum_told = c.in_default in
    let if1 = c.if-target-lt-MOST_TEXT in
    let clear = c.clear in
    let due = c.due in
    let if2 = c.if-not-due in
    let put-plan = c.put_plan in
    let accepted2 = c.accepted-2 in
    let whole : Whole entry.set.now = enum_told.ensures in
    let room : most_text ≤ length entry.target.now = omega (arith, if1.false, clear.auto.t) in
    let is-due = sym due.ensures ∙ if2.false in
    let put = subst (λ (l : List ℕ). Placed (plan_text (namings_in entry.set.now)) l 0 put-plan.result put-plan.new.out) clear.ensures put-plan.ensures in
    plan-made entry.set.now (length entry.target.now) accepted2.result room (namings_in entry.set.now) whole.held is-due put-plan.result put-plan.new.out put accepted2.ensures
