-- `matching::list_holds` meets its contract.
use Prim.Native.Nat.{ℕ}
use mathlib.Core.List.{List}
use mathlib.Core.Path.{ap, ◌∙◌}
use Rattle.outcome_readers.proofs.Texts.{text-row}
use Rattle.engine.specs.Match.{judged, some_matches}
use Rattle.keys.specs.Table.{operator_of}
use Rattle.matching.proofs.list_holds.Goals as goal

pub list_holds-requires : goal.list_holds-requires
list_holds-requires c =
    let (n, s, h) = c.requires.0 in
    let section = c.section_of in
    let w = text-row c.args.list section.result section.ensures n c.args.t.now s c.row_of-row.result (c.row_of-row.ensures n s h) in
    (w.within, w.row, c.requires.1)

pub returns : goal.returns
returns c = λ n s h.
    let args = c.args in
    let section = c.section_of in
    let row = c.row_of-row in
    let w = text-row args.list section.result section.ensures n args.t.now s row.result (row.ensures n s h) in
    c.list_holds.ensures ∙ ap (λ (xs : List (List ℕ)). judged (operator_of args.operator) (some_matches args.pattern.now xs)) w.named
