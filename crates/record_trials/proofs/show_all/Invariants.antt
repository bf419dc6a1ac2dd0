-- `record_trials::show_all` meets its contract.
use Rattle.std.proofs.Common.{◌+◌, ◌-◌, ◌≤◌, length}
use Rattle.record_trials.proofs.show_all.Given as goal

abbrev pub invariant-loop-at : goal.invariant-loop-at
invariant-loop-at l = l.at ≤ length l.table + 1

abbrev pub decreases-loop-at : goal.decreases-loop-at
decreases-loop-at l = length l.table + 1 - l.at
