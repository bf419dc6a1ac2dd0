-- `table::put_value` meets its contract: a value without escapes is put as it is written.
use native.Mathlib.Omega.{arith}
use mathlib.Core.Path.{◌∙◌}
use lib.ListN.{length}
use Rattle.lists.proofs.Moves.{length_part}
use Rattle.pairs.proofs.Escapes.{plain-part}
use Rattle.table.proofs.Pairs.{added_behind}
use Rattle.table.proofs.put_value.Goals as goal

pub returns-then-len-end : goal.returns-then-len-end
returns-then-len-end c =
    let x = c.args in
    rw (plain-part x.line.now x.coded x.start x.end x.len c.requires.0 c.if-len-end.true) c.put_bytes.ensures

pub returns-else-len-end : goal.returns-else-len-end
returns-else-len-end c =
    let x = c.args in
    added_behind _ x.at c.value_into.result x.values.now c.value_into.new.out (omega (arith, c.requires.0.size)) c.value_into.ensures
    (c.value_into.auto.out ∙ length_part x.values.now x.at (length x.values.now) (omega arith))
