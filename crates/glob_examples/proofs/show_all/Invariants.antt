-- `glob_examples::show_all` meets its contract.
use Prim.Native.Nat.{◌+◌, ◌-◌, ◌≤◌}
use lib.ListN.{length}
use Rattle.glob_examples.proofs.show_all.Given as goal

abbrev pub invariant-loop-at : goal.invariant-loop-at
invariant-loop-at l = l.at ≤ length l.table + 1

abbrev pub decreases-loop-at : goal.decreases-loop-at
decreases-loop-at l = length l.table + 1 - l.at
