-- `rows::check_entries` meets its contract: where those from here on end is where all of them end.
use Rattle.std.proofs.Common.{◌≡◌, ◌-◌, ◌≤◌, length, drop}
use Rattle.rows.specs.Row.{passed_end}
use Rattle.rows.proofs.check_entries.Given as goal

abbrev pub invariant-loop : goal.invariant-loop
invariant-loop g l =
    (l.p ≤ length l.rec)
    × (passed_end g.T.EntryTest.KIND (g.T.EntryTest.ok l.test) l.at l.n (drop l.at l.rec)
    ≡ passed_end g.T.EntryTest.KIND (g.T.EntryTest.ok l.test) l.p (l.n - l.counter) (drop l.p l.rec))
