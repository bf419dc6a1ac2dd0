-- `run_each::run_records` meets its contract.
use mathlib.Core.Path.{◌≡◌}
use lib.ListN.{length}
use Rattle.run_each.proofs.Laws.{Turning}
use Rattle.run_each.proofs.run_records.Given as goal

abbrev pub invariant-loop-i : goal.invariant-loop-i
invariant-loop-i l =
    Turning l.values l.rows l.rules l.read l.set l.sheet l.n l.targets l.answers l.p l.i × (length l.targets ≡ length l.initial.targets) × (length l.answers ≡ length l.initial.answers)
