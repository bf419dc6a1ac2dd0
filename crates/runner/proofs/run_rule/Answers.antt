-- `runner::run_rule` meets its contract.
use Prim.Native.Nat.{◌-◌}
use mathlib.Core.Path.{refl, ap}
use Rattle.std.specs.Prelude.{Ok}
use Rattle.std.proofs.lemmas.Result.{err_from_is_err_and}
use native.Mathlib.Omega.{arith}
use borrow.Author.Rules.{rules}
use Rattle.runner.proofs.Running.{rule-rows, rule_missed, rule_failed, rule-left, rule-refused}
use Rattle.runner.proofs.run_rule.Goals as goal

pub overflow_mul-i : goal.overflow_mul-i
overflow_mul-i c = omega (arith, c.requires.0, c.requires.1.few)

pub overflow_add-i : goal.overflow_add-i
overflow_add-i c = omega (arith, c.requires.0, c.requires.1.few)

pub number_at-from-requires : goal.number_at-from-requires
number_at-from-requires c = omega (arith, c.requires.0, c.requires.1.rules_room)

pub overflow_mul-i-2 : goal.overflow_mul-i-2
overflow_mul-i-2 c = omega (arith, c.requires.0, c.requires.1.few)

pub overflow_add-i-2 : goal.overflow_add-i-2
overflow_add-i-2 c = omega (arith, c.requires.0, c.requires.1.few)

pub number_at-to-requires : goal.number_at-to-requires
number_at-to-requires c = omega (arith, c.requires.0, c.requires.1.rules_room)

pub overflow_mul-i-3 : goal.overflow_mul-i-3
overflow_mul-i-3 c = omega (arith, c.requires.0, c.requires.1.few)

pub overflow_add-i-3 : goal.overflow_add-i-3
overflow_add-i-3 c = omega (arith, c.requires.0, c.requires.1.few)

pub number_at-first-requires : goal.number_at-first-requires
number_at-first-requires c = omega (arith, c.requires.0, c.requires.1.rules_room)

pub step-requires : goal.step-requires
step-requires c =
    let a = c.args in
    let from = c.number_at-from in
    let to = c.number_at-to in (
      rule-rows a.values.now a.rows.now a.rules.now a.jumps.now a.count a.i c.requires.0 c.requires.1
          from.result to.result from.ensures.0 to.ensures.0,
      c.requires.2,
      c.requires.3,
    )

pub overflow_add-result : goal.overflow_add-result
overflow_add-result c = omega (arith, c.requires.0, c.requires.1.few)

pub overflow_add-result-in-Failed : goal.overflow_add-result-in-Failed
overflow_add-result-in-Failed c = omega (arith, c.requires.0, c.requires.1.few)

pub behind-requires : goal.behind-requires
behind-requires c = omega (arith, c.requires.0, c.requires.1.jumps_room)

pub returns-in-Missed : goal.returns-in-Missed
returns-in-Missed c =
    let a = c.args in
    let from = c.number_at-from in
    let to = c.number_at-to in
    record {
      says =
          rule_missed a.values.now a.rows.now a.rules.now a.jumps.now a.count a.i c.requires.0 c.requires.1
          from.result to.result from.ensures.0 to.ensures.0
          a.dev.now a.chain a.sheet.now a.t.now a.layout _ _ c.in_ok-stepped.ensures _ (ap Ok c.in-Missed.is);
      length = c.in_ok-stepped.ensures.length;
    }

pub returns-in-Failed : goal.returns-in-Failed
returns-in-Failed c =
    let a = c.args in
    let from = c.number_at-from in
    let to = c.number_at-to in
    record {
      says =
          rule_failed a.values.now a.rows.now a.rules.now a.jumps.now a.count a.i c.requires.0 c.requires.1
          from.result to.result from.ensures.0 to.ensures.0
          a.dev.now a.chain a.sheet.now a.t.now a.layout _ _ c.in_ok-stepped.ensures _ _ (ap Ok c.in-Failed.is);
      length = c.in_ok-stepped.ensures.length;
    }

pub returns-in-Left : goal.returns-in-Left
returns-in-Left c =
    let a = c.args in
    let from = c.number_at-from in
    let to = c.number_at-to in
    record {
      says =
          rule-left a.values.now a.rows.now a.rules.now a.jumps.now a.count a.i c.requires.0 c.requires.1
          from.result to.result from.ensures.0 to.ensures.0
          a.dev.now a.chain a.sheet.now a.t.now a.layout _ _ c.in_ok-stepped.ensures _ _ (ap Ok c.in-Left.is) c.behind.result c.behind.ensures;
      length = c.in_ok-stepped.ensures.length;
    }

pub returns-in_err-stepped : goal.returns-in_err-stepped
returns-in_err-stepped c =
    let a = c.args in
    let from = c.number_at-from in
    let to = c.number_at-to in
    let p = err_from_is_err_and c.from_residual.result c.from_residual.ensures.1 in
    rw (p.1, p.2)
    (record {
      says =
          rule-refused a.values.now a.rows.now a.rules.now a.jumps.now a.count a.i c.requires.0 c.requires.1
          from.result to.result from.ensures.0 to.ensures.0
          a.dev.now a.chain a.sheet.now a.t.now a.layout _ _ c.in_err-stepped.ensures _ refl;
      length = c.in_err-stepped.ensures.length;
    })
