-- `runner::run_rules` meets its contract.
use Prim.Native.Nat.{◌-◌}
use Rattle.runner.proofs.Running.{Going}
use Rattle.runner.proofs.run_rules.Given as goal

abbrev pub invariant-loop-i : goal.invariant-loop-i
invariant-loop-i l = Going l.values l.rows l.rules l.count l.dev l.chain l.sheet l.initial.t l.initial.layout l.t l.layout l.visited l.tried l.i

abbrev pub decreases-loop-i : goal.decreases-loop-i
decreases-loop-i l = l.count - l.i
