-- `rule_writing::put_rules` meets its contract.
use Prim.Native.Nat.{◌-◌, ◌≤◌}
use Rattle.lists.specs.Sizes.{most_text}
use Rattle.rule_writing.proofs.Writes.{Writes}
use Rattle.writing.specs.Writing.{written}
use Rattle.table.specs.Table.{rules_from}
use Rattle.rule_writing.proofs.put_rules.Given as goal

abbrev pub invariant-loop-i : goal.invariant-loop-i
invariant-loop-i l = (l.i ≤ l.count) × (l.used ≤ most_text) × Writes (written (rules_from l.values l.rows l.rules 0 l.count)) l.initial.out 0 (written (rules_from l.values l.rows l.rules l.i (l.count - l.i))) l.out l.used
