-- `scan::low_in_group` meets its contract.
use Prim.Native.Nat.{◌+◌, ◌-◌, ◌≤◌}
use mathlib.Core.Path.{◌≡◌}
use mathlib.Core.Bool.{false}
use Rattle.scan.specs.Groups.{AboveFrom}
use Rattle.scan.proofs.low_in_group.Given as goal

abbrev pub invariant-loop-i : goal.invariant-loop-i
invariant-loop-i l = (l.low ≡ false → AboveFrom l.s l.at l.i)
