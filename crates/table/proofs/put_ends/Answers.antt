-- `table::put_ends` meets its contract.
use Prim.Native.Nat.{◌+◌, ◌-◌}
use native.Mathlib.Omega.{arith}
use Rattle.table.proofs.Bytes.{put-part, put_first, put_last}
use Rattle.table.proofs.put_ends.Goals as goal

pub returns : goal.returns
returns g c =
    let x = c.args in
    let (order, within, room, least, most) = c.requires in
    let first = put_first x.line.now x.start x.end order within x.at x.values.now room c.put_group.new.values g.row.N least c.put_group.ensures in
    let both = put-part x.line.now x.start x.end order within x.at x.values.now room
    c.put_group.new.values c.put_group-2.new.values (0 + g.row.N) (x.end - x.start - g.row.N) g.row.N (omega arith) (omega arith) (omega arith) first c.put_group-2.ensures in
    put_last x.line.now x.start x.end order within x.at x.values.now room c.put_group-2.new.values _ (omega arith) both
