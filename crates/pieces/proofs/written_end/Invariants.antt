-- `pieces::written_end` meets its contract.
use Rattle.pieces.specs.Read.{PassesWritten}
use Rattle.pieces.proofs.written_end.Given as goal

abbrev pub invariant-loop-i : goal.invariant-loop-i
invariant-loop-i l = PassesWritten l.template l.at l.i
