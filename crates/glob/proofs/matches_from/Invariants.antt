-- `glob::matches_from` meets its contract.
use Prim.Native.Nat.{◌-◌, ◌≤◌}
use mathlib.Core.Path.{◌≡◌}
use lib.ListN.{length, drop}
use Rattle.glob.specs.Place.{matches_from}
use Rattle.glob.proofs.matches_from.Given as goal

abbrev pub invariant-loop-next : goal.invariant-loop-next
invariant-loop-next l = (l.p ≤ length l.pattern) × (l.t ≤ length l.value) × (matches_from l.pattern l.p (drop l.t l.value) ≡ matches_from l.pattern l.at (drop l.from l.value))

abbrev pub decreases-loop-next : goal.decreases-loop-next
decreases-loop-next l = length l.pattern - l.p
