-- `plan_due::apart` meets its contract.
use Prim.Native.Nat.{◌-◌}
use Rattle.plan_rows.proofs.Walk.{Walking}
use Rattle.plan_due.proofs.Each.{Apart}
use Rattle.plan_due.proofs.apart.Given as goal

abbrev pub invariant-loop : goal.invariant-loop
invariant-loop l = Walking (Apart l.set l.p l.n l.path l.link) l.set l.q (l.n - l.counter)
