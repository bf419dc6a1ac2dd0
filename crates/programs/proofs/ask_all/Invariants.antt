-- `programs::ask_all` meets its contract.
use Prim.Native.Nat.{◌-◌}
use Rattle.programs.proofs.Rows.{Going}
use Rattle.programs.proofs.ask_all.Given as goal

abbrev pub invariant-loop-i : goal.invariant-loop-i
invariant-loop-i l = Going l.values l.rows l.from l.to l.sheet l.initial.t l.dev l.chain l.place l.initial.layout l.t l.layout l.i
