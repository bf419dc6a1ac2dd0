-- `substitution::plain_end` meets its contract.
use Prim.Native.Nat.{◌-◌}
use lib.ListN.{length}
use Rattle.substitution.specs.Turns.{is_plain}
use Rattle.scan.proofs.Ends.{Follows}
use Rattle.substitution.proofs.plain_end.Given as goal

abbrev pub invariant-loop-i : goal.invariant-loop-i
invariant-loop-i l = Follows is_plain l.template l.at l.i

abbrev pub decreases-loop-i : goal.decreases-loop-i
decreases-loop-i l = length l.template - l.i
