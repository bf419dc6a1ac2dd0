-- `scan::in_group` meets its contract.
use Prim.Native.Nat.{◌+◌, ◌-◌, ◌≤◌}
use mathlib.Core.Path.{◌≡◌}
use mathlib.Core.Bool.{true, false}
use Rattle.scan.specs.Groups.{LacksFrom, Met}
use Rattle.scan.proofs.in_group.Given as goal

abbrev pub invariant-loop-i : goal.invariant-loop-i
invariant-loop-i l = (l.found ≡ false → LacksFrom l.b l.s l.at l.i) × (l.found ≡ true → Met l.b l.s l.at l.i)
