-- `plan_due::due` meets its contract.
use Rattle.plan_rows.proofs.Walk.{Walking}
use Rattle.plan_due.proofs.Each.{Due}
use Rattle.plan_due.proofs.due.Given as goal

abbrev pub invariant-loop-left : goal.invariant-loop-left
invariant-loop-left l = Walking (Due l.set) l.set l.p l.left
