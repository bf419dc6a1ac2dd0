-- `step::judge` meets its contract.
use Prim.Native.Nat.{◌-◌}
use mathlib.Core.Path.{sym, ◌∙◌}
use borrow.Author.Tests.{not-true}
use Rattle.table.specs.Table.{pairs_from}
use Rattle.step.proofs.Rules.{judged_unasked}
use Rattle.step.proofs.judge.Goals as goal

pub returns-then-not-asks : goal.returns-then-not-asks
returns-then-not-asks c =
    let x = c.args in
    λ a is d s h. (s, judged_unasked a d x.place (pairs_from x.values.now x.rows.now x.from (x.to - x.from)) s (sym c.requires.4 ∙ not-true _ c.if-not-asks.true-raw), h.held)
