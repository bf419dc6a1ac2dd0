-- `scan::run_end` meets its contract.
use Rattle.scan.proofs.Ends.{Follows}
use Rattle.scan.proofs.run_end.Given as goal

abbrev pub invariant-loop-i : goal.invariant-loop-i
invariant-loop-i g l = Follows (g.C.Class.holds l.class) l.s l.at l.i
