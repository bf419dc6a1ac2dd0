-- `action_rows::action_in` meets its contract.
use Prim.Native.Nat.{◌-◌, ◌≤◌}
use mathlib.Core.Path.{◌≡◌}
use Rattle.action_rows.specs.Actions.{action_in}
use Rattle.action_rows.proofs.action_in.Given as goal

abbrev pub invariant-loop-i : goal.invariant-loop-i
invariant-loop-i l = (l.i ≤ l.to) × (action_in l.rows l.from (l.to - l.from) ≡ action_in l.rows l.i (l.to - l.i))
