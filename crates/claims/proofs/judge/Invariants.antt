-- `claims::judge` meets its contract.
use Rattle.claims.proofs.Judging.{Left}
use Rattle.claims.proofs.judge.Given as goal

abbrev pub invariant-loop-i : goal.invariant-loop-i
invariant-loop-i l = Left l.set l.p l.i l.i-end
