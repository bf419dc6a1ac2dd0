-- `programs::results_hold` meets its contract: every row so far holds.
use Prim.Native.Nat.{◌-◌, ◌≤◌}
use mathlib.Core.Path.{◌≡◌}
use Rattle.table.specs.Table.{pairs_from}
use Rattle.programs.specs.Programs.{results_on}
use Rattle.programs.proofs.results_hold.Given as goal

abbrev pub invariant-loop-i : goal.invariant-loop-i
invariant-loop-i l = (l.i ≤ l.to) × (results_on l.output (pairs_from l.values l.rows l.from (l.to - l.from)) ≡ results_on l.output (pairs_from l.values l.rows l.i (l.to - l.i)))
