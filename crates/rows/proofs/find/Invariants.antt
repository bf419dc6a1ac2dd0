-- `rows::find` meets its contract: the search from here on gives the whole answer.
use Rattle.std.proofs.Common.{◌≡◌, ◌-◌, ◌≤◌, length, drop}
use Rattle.rows.specs.Row.{Row, find_in}
use Rattle.rows.proofs.find.Given as goal

abbrev pub invariant-loop : goal.invariant-loop
invariant-loop l =
    (l.p ≤ length l.rec)
    × Row l.kind (l.n - l.counter) (drop l.p l.rec)
    × (find_in l.kind l.x l.at l.n (drop l.at l.rec) ≡ find_in l.kind l.x l.p (l.n - l.counter) (drop l.p l.rec))
