-- `run_files::run_all` meets its contract.
use Rattle.run_files.proofs.Turns.{Going}
use Rattle.run_files.proofs.run_all.Given as goal

abbrev pub invariant-loop-k : goal.invariant-loop-k
invariant-loop-k l = Going l.set l.starts l.order l.count l.dev l.chain l.sheet l.initial.t l.initial.layout l.t l.layout l.k l.visited l.tried
