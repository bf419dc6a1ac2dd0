-- `pieces_examples::show_template` meets its contract.
use Prim.Native.Nat.{◌-◌, ◌≤◌}
use lib.ListN.{length}
use Rattle.pieces_examples.proofs.show_template.Given as goal

abbrev pub invariant-loop-read : goal.invariant-loop-read
invariant-loop-read l = l.i ≤ length l.template

abbrev pub decreases-loop-read : goal.decreases-loop-read
decreases-loop-read l = length l.template - l.i
