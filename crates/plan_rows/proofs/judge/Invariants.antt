-- `plan_rows::judge` meets its contract.
use Rattle.plan_rows.proofs.Judging.{Left}
use Rattle.plan_rows.proofs.judge.Given as goal

abbrev pub invariant-loop-i : goal.invariant-loop-i
invariant-loop-i l = Left l.set l.p l.i l.i-end
