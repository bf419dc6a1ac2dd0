-- `text_trials::show_all` meets its contract.
use Prim.Native.Nat.{◌+◌, ◌-◌, ◌≤◌}
use mathlib.Core.Path.{◌≡◌}
use lib.ListN.{length}
use Rattle.text_trials.proofs.show_all.Given as goal

abbrev pub invariant-loop-at : goal.invariant-loop-at
invariant-loop-at l = (l.at ≤ length l.table + 1) × (length l.text ≡ length l.initial.text)

abbrev pub decreases-loop-at : goal.decreases-loop-at
decreases-loop-at l = length l.table + 1 - l.at
