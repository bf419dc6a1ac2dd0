-- `match_values::some_matches` meets its contract.
use Prim.Native.Nat.{◌≤◌, ◌-◌}
use mathlib.Core.Path.{◌≡◌}
use lib.ListN.{length, drop}
use Rattle.engine.specs.Match.{some_matches}
use Rattle.rows.specs.declared.Kind.TheVariants.{Text}
use Rattle.rows.specs.Row.{Row, names}
use Rattle.match_values.proofs.some_matches.Given as goal

abbrev pub invariant-loop : goal.invariant-loop
invariant-loop l =
    (l.p ≤ length l.rec)
    × Row Text (l.n - l.counter) (drop l.p l.rec)
    × (some_matches l.pattern (names Text l.n (drop l.at l.rec)) ≡ some_matches l.pattern (names Text (l.n - l.counter) (drop l.p l.rec)))
