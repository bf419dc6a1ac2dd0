-- `assignment::assign_all` meets its contract.
use Rattle.assignment.proofs.Rows.{Going}
use Rattle.assignment.proofs.assign_all.Given as goal

abbrev pub invariant-loop-i : goal.invariant-loop-i
invariant-loop-i l = Going l.values l.rows l.from l.to l.initial.t l.dev l.chain l.place l.initial.work.layout l.t l.work l.i
