-- `rows::distinct` meets its contract: names from here on are distinct just if all are.
use Rattle.std.proofs.Common.{◌≡◌, ◌-◌, ◌≤◌, length, drop}
use Rattle.lists.specs.Bytes.{distinct}
use Rattle.rows.specs.Row.{Row, names}
use Rattle.rows.proofs.distinct.Given as goal

abbrev pub invariant-loop-i : goal.invariant-loop-i
invariant-loop-i l =
    (l.p ≤ length l.rec)
    × Row l.kind (l.n - l.i) (drop l.p l.rec)
    × (distinct (names l.kind l.n (drop l.at l.rec)) ≡ distinct (names l.kind (l.n - l.i) (drop l.p l.rec)))
