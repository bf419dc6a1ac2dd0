-- `rule_writing::put_others` meets its contract.
use Prim.Native.Nat.{◌-◌, ◌≤◌}
use Rattle.rule_writing.proofs.Writes.{Writes}
use Rattle.rule_writing.specs.Tables.{others}
use Rattle.table.specs.Table.{pairs_from}
use Rattle.rule_writing.proofs.put_others.Given as goal

abbrev pub invariant-loop-i : goal.invariant-loop-i
invariant-loop-i l = (l.i ≤ l.to) × Writes (others (pairs_from l.values l.rows l.from (l.to - l.from))) l.initial.out l.used (others (pairs_from l.values l.rows l.i (l.to - l.i))) l.out l.end
