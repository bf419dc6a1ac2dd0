-- `matching::row_holds` meets its contract.
use mathlib.Core.Path.{sym, ◌∙◌}
use Rattle.table.specs.Table.{entry_of}
use Rattle.matching.proofs.Keys.{not-asked}
use Rattle.matching.proofs.row_holds.Goals as goal

pub returns-then-not-is_asked_here : goal.returns-then-not-is_asked_here
returns-then-not-is_asked_here c = λ x.
    let a = c.args in
    sym (not-asked a.subject (sym c.is_asked_here.ensures ∙ c.if-not-is_asked_here.true) (entry_of a.values.now a.entry) x.device x.member x.state)
