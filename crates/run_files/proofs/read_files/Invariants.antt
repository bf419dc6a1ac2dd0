-- `run_files::read_files` meets its contract.
use Rattle.run_files.proofs.Loading.{Reading}
use Rattle.run_files.proofs.read_files.Given as goal

abbrev pub invariant-loop-k : goal.invariant-loop-k
invariant-loop-k l = Reading l.set l.starts l.order l.count l.k
