-- `action_rows::put_actions` meets its contract.
use Prim.Native.Nat.{◌-◌, ◌≤◌}
use borrow.Author.Rules.{rules}
use Rattle.action_rows.specs.Actions.{ActionsPut}
use Rattle.action_rows.proofs.put_actions.Given as goal

abbrev pub invariant-loop-i : goal.invariant-loop-i
invariant-loop-i l = (l.i ≤ l.count) × ActionsPut l.rows l.initial.rules l.rules l.i
