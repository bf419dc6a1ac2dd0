-- `left_lines::leave_lines` meets its contract.
use Rattle.left_lines.specs.Left.{Leaves}
use lib.ListN.{length}
use mathlib.Core.Path.{◌≡◌}
use Prim.Native.Nat.{◌+◌, ◌-◌, ◌≤◌}
use borrow.Author.Rules.{rules}
use Rattle.left_lines.proofs.leave_lines.Given as goal

abbrev pub invariant-loop-left : goal.invariant-loop-left
invariant-loop-left l =
    (l.left.at ≤ length l.text + 1) × Leaves l.text l.rules l.list l.target l.end l.left × (length l.list ≡ length l.initial.list) × (length l.target ≡ length l.initial.target)

abbrev pub decreases-loop-left : goal.decreases-loop-left
decreases-loop-left l = length l.text + 1 - l.left.at
