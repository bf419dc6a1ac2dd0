-- `rows::row_end` meets its contract: the end from here on is the end of all.
use Rattle.std.proofs.Common.{◌≡◌, ◌-◌, ◌≤◌, length, drop}
use Rattle.rows.specs.Row.{Row, end_in}
use Rattle.rows.proofs.row_end.Given as goal

abbrev pub invariant-loop : goal.invariant-loop
invariant-loop l =
    (l.p ≤ length l.rec)
    × Row l.kind (l.n - l.counter) (drop l.p l.rec)
    × (end_in l.kind l.at l.n (drop l.at l.rec) ≡ end_in l.kind l.p (l.n - l.counter) (drop l.p l.rec))
