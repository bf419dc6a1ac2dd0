-- `keys::find_key` meets its contract.
use mathlib.Core.Path.{sym, ◌∙◌}
use Rattle.keys.specs.Table.{row_of}
use Rattle.keys.proofs.Rows.{row_named, row_unnamed}
use Rattle.keys.proofs.find_key.Goals as goal

pub returns-then-same_name : goal.returns-then-same_name
unfolding row_of
returns-then-same_name c =
    sym (row_named c.args.name.now c.place.result (row_of c.row_at-row.result) c.row_at-row.ensures.0
    (rw (← c.from.ensures) (sym c.same_name.ensures ∙ c.if-same_name.true)))

pub returns-else-same_name : goal.returns-else-same_name
unfolding row_of
returns-else-same_name c =
    sym
    (row_unnamed c.args.name.now c.place.result (row_of c.row_at-row.result) c.row_at-row.ensures.0 c.place.ensures.1
    (rw (← c.from.ensures) (sym c.same_name.ensures ∙ c.if-same_name.false)))
