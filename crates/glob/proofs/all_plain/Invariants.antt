-- `glob::all_plain` meets its contract: no group before the one at hand has a byte that does not stand for itself.
use Prim.Native.Nat.{◌-◌}
use lib.ListN.{length}
use Rattle.glob.specs.Plain.{PlainFrom}
use Rattle.glob.proofs.all_plain.Given as goal

abbrev pub invariant-loop-i : goal.invariant-loop-i
invariant-loop-i l = PlainFrom l.pattern 0 l.i

abbrev pub decreases-loop-i : goal.decreases-loop-i
decreases-loop-i l = length l.pattern - l.i
