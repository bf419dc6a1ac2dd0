-- `glob::matches` meets its contract.
use Prim.Native.Nat.{◌+◌, ◌-◌, ◌≤◌}
use mathlib.Core.Path.{◌≡◌}
use lib.ListN.{length}
use Rattle.glob.proofs.Alternatives.{any_from}
use Rattle.pattern.specs.Pattern.{matches}
use Rattle.glob.proofs.matches.Given as goal

abbrev pub invariant-loop-at : goal.invariant-loop-at
invariant-loop-at l = (l.at ≤ length l.pattern) × (any_from l.pattern l.at l.value ≡ matches l.pattern l.value)

abbrev pub decreases-loop-at : goal.decreases-loop-at
decreases-loop-at l = length l.pattern + 1 - l.at
