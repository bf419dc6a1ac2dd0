-- `lines::joined_end` meets its contract.
use Prim.Native.Nat.{◌-◌, ◌≤◌}
use lib.ListN.{length}
use Rattle.lines.proofs.Walk.{Walk}
use Rattle.lines.proofs.joined_end.Given as goal

abbrev pub invariant-loop-slash : goal.invariant-loop-slash
invariant-loop-slash l = (l.newlines ≤ l.end) × Walk l.text l.at l.end l.slash l.newlines

abbrev pub decreases-loop-slash : goal.decreases-loop-slash
decreases-loop-slash l = length l.text - l.end
