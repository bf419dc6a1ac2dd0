-- `table::put_group` meets its contract.
use mathlib.Core.Path.{ap, ◌∙◌}
use lib.ListN.{length-replicate, replicate}
use Prim.Native.Nat.{ℕ}
use Rattle.splice.specs.Moves.{stored}
use Rattle.table.proofs.Bytes.{group-whole}
use Rattle.table.proofs.put_group.Goals as goal

pub returns : goal.returns
returns g c =
    let x = c.args in
    c.store-2.ensures ∙ ap (stored x.values.now x.at) (group-whole g.row.N x.line.now _ (replicate g.row.N 0) x.from (length-replicate {A = ℕ} g.row.N 0) c.requires.0 c.store.ensures)
