-- `table::put_groups` meets its contract.
use Prim.Native.Nat.{◌-◌, ◌≤◌}
use Rattle.lists.specs.Bytes.{part}
use Rattle.table.proofs.Bytes.{PutUp}
use Rattle.table.proofs.put_groups.Given as goal

abbrev pub invariant-loop-i : goal.invariant-loop-i
invariant-loop-i l = (l.i ≤ l.end - l.start) × PutUp (part l.line l.start l.end) l.at l.initial.values l.values l.i

abbrev pub decreases-loop-i : goal.decreases-loop-i
decreases-loop-i l = l.end - l.start - l.i
