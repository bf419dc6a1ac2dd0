-- `glob::after_star` meets its contract.
use Prim.Native.Nat.{◌+◌, ◌-◌, ◌*◌}
use lib.ListN.{length}
use Rattle.glob.proofs.Search.{Searching}
use Rattle.glob.proofs.after_star.Given as goal

abbrev pub invariant-loop-behind : goal.invariant-loop-behind
invariant-loop-behind l = Searching l.pattern l.star l.value l.from l.behind l.start l.p l.t

abbrev pub decreases-loop-behind : goal.decreases-loop-behind
decreases-loop-behind l = (length l.value - l.start) * (length l.pattern + 1) + (length l.pattern - l.p)
