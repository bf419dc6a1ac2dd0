-- `programs::result_holds` meets its contract.
use mathlib.Core.Path.{sym, ◌∙◌}
use borrow.Author.Tests.{not-true, not-false}
use Rattle.table.specs.Table.{entry_of}
use Rattle.engine.specs.Match.{value_holds}
use Rattle.programs.proofs.Results.{result-passed, result-judged}
use Rattle.programs.proofs.result_holds.Goals as goal

pub returns-then-not-is_result : goal.returns-then-not-is_result
returns-then-not-is_result c =
    let a = c.args in
    result-passed a.output.now (entry_of a.values.now a.entry) (sym c.is_result.ensures ∙ not-true _ c.if-not-is_result.true-raw)

pub returns : goal.returns
unfolding value_holds
returns c =
    let a = c.args in
    c.value_holds.ensures
    ∙ result-judged a.output.now (entry_of a.values.now a.entry) (sym c.is_result.ensures ∙ not-false _ c.if-not-is_result.false-raw)
