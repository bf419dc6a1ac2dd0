-- `rule_writing::put_name` meets its contract.
use mathlib.Core.Path.{ap, ◌∙◌}
use native.Mathlib.Omega.{arith}
use lib.ListN.{length}
use Rattle.rule_writing.proofs.Parts.{name_of_lem}
use Rattle.rule_writing.proofs.Writes.{placed_as}
use Rattle.kinds.proofs.Numbers.{key_few}
use Rattle.keys.specs.Table.{key_of}
use Rattle.rule_writing.proofs.put_name.Goals as goal

pub row_at-row-requires : goal.row_at-row-requires
row_at-row-requires c = omega (arith, c.from.ensures, c.key_number.ensures, key_few (key_of c.args.key))

pub put_first-requires : goal.put_first-requires
put_first-requires c =
    let a = c.args in
    let name = name_of_lem (key_of a.key) c.from.result c.row_at-row.result c.from-2.result (c.from.ensures ∙ c.key_number.ensures) c.row_at-row.ensures.0 c.from-2.ensures in
    (omega (arith, c.from-2.ensures, c.row_at-row.ensures.1), omega (arith, c.requires, ap length name))

pub returns : goal.returns
returns c =
    let a = c.args in
    let name = name_of_lem (key_of a.key) c.from.result c.row_at-row.result c.from-2.result (c.from.ensures ∙ c.key_number.ensures) c.row_at-row.ensures.0 c.from-2.ensures in
    placed_as name c.put_first.ensures
