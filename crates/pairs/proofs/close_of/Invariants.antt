-- `pairs::close_of` meets its contract.
use Rattle.pairs.proofs.Closing.{Scans}
use Rattle.pairs.proofs.close_of.Given as goal

abbrev pub invariant-loop-i : goal.invariant-loop-i
invariant-loop-i l = Scans l.line l.start l.i l.marks
