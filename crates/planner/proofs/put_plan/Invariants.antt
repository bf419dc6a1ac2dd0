-- `planner::put_plan` meets its contract.
use Prim.Native.Nat.{◌-◌}
use Rattle.plan_rows.proofs.Walk.{Walking}
use Rattle.planner.proofs.Lines.{Left}
use Rattle.planner.proofs.put_plan.Given as goal

abbrev pub invariant-loop : goal.invariant-loop
invariant-loop l = Walking (Left l.set l.initial.out l.out l.used) l.set l.p (l.n - l.counter)
