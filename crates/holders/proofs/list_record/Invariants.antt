-- `holders::list_record` meets its contract.
use Prim.Native.Nat.{◌-◌}
use lib.ListN.{length}
use mathlib.Core.Path.{◌≡◌}
use Rattle.holders.proofs.Turns.{Turning}
use Rattle.holders.proofs.list_record.Given as goal

abbrev pub invariant-loop : goal.invariant-loop
invariant-loop l = Turning l.set l.rec l.done.records l.first.priority l.t l.used l.names l.q (l.end - l.counter) × (length l.t ≡ length l.initial.t)
