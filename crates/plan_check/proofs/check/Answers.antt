-- `plan_check::check` meets its contract.
use mathlib.Core.Bool.{true, false}
use mathlib.Core.Path.{sym, ◌∙◌}
use Rattle.std.specs.Prelude.{Err}
use Rattle.plan_rows.specs.Namings.{namings_in, Whole, JudgedIs}
use Rattle.plan_check.proofs.Answers.{check-refused, check-said}
use native.Mathlib.Omega.{arith}
use Rattle.plan_check.proofs.check.Goals as goal

pub refused-requires : goal.refused-requires
refused-requires c =
    let is : JudgedIs c.args.set.now (Err c.in-Err.fault) = c.in-Err.ensures in
    (omega (arith, is.1), omega (arith, is.2))

pub returns-in-Err : goal.returns-in-Err
returns-in-Err c =
    let is : JudgedIs c.args.set.now (Err c.in-Err.fault) = c.in-Err.ensures in
    check-refused c.args.set.now c.args.text.now c.refused.result _ is.0 c.refused.ensures

pub count_of-requires : goal.count_of-requires
count_of-requires c =
    let whole : Whole c.args.set.now = c.in_default.ensures in
    whole.some

pub accepts_any-requires : goal.accepts_any-requires
accepts_any-requires c =
    let whole : Whole c.args.set.now = c.in_default.ensures in
    (whole, c.count_of.ensures.0 ∙ whole.counted)

pub returns-then-accepts_any : goal.returns-then-accepts_any
returns-then-accepts_any c =
    let whole : Whole c.args.set.now = c.in_default.ensures in
    check-said c.args.set.now c.args.text.now c.accepted.result (namings_in c.args.set.now) true whole.held (sym c.accepts_any.ensures ∙ c.if-accepts_any.true) c.accepted.ensures

pub returns : goal.returns
returns c =
    let whole : Whole c.args.set.now = c.in_default.ensures in
    check-said c.args.set.now c.args.text.now c.accepted-2.result (namings_in c.args.set.now) false whole.held (sym c.accepts_any.ensures ∙ c.if-accepts_any.false) c.accepted-2.ensures
