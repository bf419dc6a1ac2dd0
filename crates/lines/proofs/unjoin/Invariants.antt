-- `lines::unjoin` meets its contract.
use Rattle.lines.proofs.Copy.{Copied}
use Rattle.lines.proofs.unjoin.Given as goal

abbrev pub invariant-loop-i : goal.invariant-loop-i
invariant-loop-i l = Copied l.text l.at l.end l.i l.n l.line
