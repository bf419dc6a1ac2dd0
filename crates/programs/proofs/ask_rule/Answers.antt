-- `programs::ask_rule` meets its contract.
use Prim.Native.Nat.{◌-◌}
use mathlib.Core.Path.{refl, ap}
use Rattle.std.specs.Prelude.{Ok, Err}
use Rattle.std.proofs.lemmas.Result.{err_from_is_err_and}
use Rattle.table.specs.Table.{pairs_from}
use Rattle.programs.proofs.Results.{judged_failed, judged-refused, output_within, judged-held, judged_missed}
use Rattle.programs.proofs.ask_rule.Goals as goal

pub output_of-requires : goal.output_of-requires
output_of-requires c =
    let entry = c in
    let x = entry.args in
    output_within (pairs_from x.values.now x.rows.now x.from (x.to - x.from)) x.place x.sheet.now x.dev.now x.chain x.t.now x.layout c.ask_all.new.t (Ok c.in_ok-asked.asked) c.in_ok-asked.ensures entry.requires.3 entry.requires.1 _ (ap Ok c.in-Held.is)

pub returns-then-results_hold : goal.returns-then-results_hold
returns-then-results_hold c =
    let a = c.args in
    let x = a in
    judged-held (pairs_from x.values.now x.rows.now x.from (x.to - x.from)) x.place x.sheet.now x.dev.now x.chain x.t.now
    x.layout c.ask_all.new.t (Ok c.in_ok-asked.asked) c.in_ok-asked.ensures _ (ap Ok c.in-Held.is) _ c.output_of.ensures
    c.results_hold.result c.results_hold.ensures c.if-results_hold.true

pub returns-else-results_hold : goal.returns-else-results_hold
returns-else-results_hold c =
    let a = c.args in
    let x = a in
    judged_missed (pairs_from x.values.now x.rows.now x.from (x.to - x.from)) x.place x.sheet.now x.dev.now x.chain x.t.now
    x.layout c.ask_all.new.t (Ok c.in_ok-asked.asked) c.in_ok-asked.ensures _ (ap Ok c.in-Held.is) _ c.output_of.ensures
    c.results_hold.result c.results_hold.ensures c.if-results_hold.false

pub returns-in-Failed : goal.returns-in-Failed
returns-in-Failed c =
    let x = c.args in
    judged_failed (pairs_from x.values.now x.rows.now x.from (x.to - x.from)) x.place x.sheet.now x.dev.now x.chain x.t.now x.layout c.ask_all.new.t (Ok c.in_ok-asked.asked) c.in_ok-asked.ensures _ (ap Ok c.in-Failed.is)

pub returns-in_err-asked : goal.returns-in_err-asked
returns-in_err-asked c =
    let x = c.args in
    let p = err_from_is_err_and c.from_residual.result c.from_residual.ensures.1 in
    rw (p.1, p.2) (judged-refused (pairs_from x.values.now x.rows.now x.from (x.to - x.from)) x.place x.sheet.now x.dev.now x.chain x.t.now x.layout c.ask_all.new.t (Err c.in_err-asked.field-0.0) c.in_err-asked.ensures c.in_err-asked.field-0.0 refl)
