-- `plan_check::names_each` meets its contract.
use Prim.Native.Nat.{◌-◌}
use mathlib.Core.Path.{◌≡◌}
use lib.ListN.{length}
use Rattle.lists.specs.Sizes.{fullest_outcome}
use Rattle.plan_rows.proofs.Walk.{Walking}
use Rattle.plan_check.proofs.Each.{Decide}
use Rattle.plan_check.proofs.names_each.Given as goal

abbrev pub invariant-loop : goal.invariant-loop
invariant-loop l = Walking (Decide l.values l.rows l.rules l.read l.set) l.set l.p (l.n - l.counter) × (length l.t ≡ fullest_outcome)
