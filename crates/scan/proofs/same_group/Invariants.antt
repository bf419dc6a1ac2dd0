-- `scan::same_group` meets its contract.
use Prim.Native.Nat.{◌+◌, ◌-◌, ◌≤◌}
use mathlib.Core.Path.{◌≡◌}
use mathlib.Core.Bool.{true, false}
use lib.ListN.{drop}
use Rattle.lists.specs.Bytes.{same_bytes}
use Rattle.scan.specs.Groups.{SameFrom}
use Rattle.scan.proofs.same_group.Given as goal

abbrev pub invariant-loop-i : goal.invariant-loop-i
invariant-loop-i l = (l.same ≡ true → SameFrom l.a l.b l.at l.i) × (l.same ≡ false → same_bytes (drop l.at l.a) (drop l.at l.b) ≡ false)
