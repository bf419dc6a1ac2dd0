-- `file_rows::find_files` meets its contract.
use Rattle.file_rows.proofs.Walk.{Found}
use Rattle.file_rows.proofs.find_files.Given as goal

abbrev pub invariant-loop-i : goal.invariant-loop-i
invariant-loop-i l = Found l.set l.starts l.p l.i l.count
