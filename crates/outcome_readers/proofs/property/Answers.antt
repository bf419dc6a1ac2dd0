-- `outcome_readers::property` meets its contract.
use mathlib.Core.Path.{◌∙◌}
use Rattle.rows.proofs.Lookup.{value_part}
use Rattle.outcome_readers.proofs.property.Goals as goal

pub value_of-requires : goal.value_of-requires
value_of-requires c =
    let h = c.row_of-row.ensures c.requires.0 c.requires.1 c.requires.2 in (h.within, h.row)

pub returns : goal.returns
returns c =
    let a = c.args in
    let r = c.row_of-row.result in λ n s w. let h = c.row_of-row.ensures n s w in c.value_of.ensures ∙ value_part a.t.now a.key.now r.count r.at s.properties h.read.0 h.read.1
