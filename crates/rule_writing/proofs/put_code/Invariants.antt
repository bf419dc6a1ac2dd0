-- `rule_writing::put_code` meets its contract.
use Prim.Native.Nat.{◌-◌, ◌≤◌}
use lib.ListN.{length, drop}
use Rattle.lists.specs.Lists.{cat}
use Rattle.rule_writing.proofs.Writes.{Writes}
use Rattle.writing.specs.Writing.{code_byte}
use Rattle.rule_writing.proofs.put_code.Given as goal

abbrev pub invariant-loop-b : goal.invariant-loop-b
invariant-loop-b l = (l.b-index ≤ length l.value) × Writes (cat code_byte l.value) l.initial.out l.used (cat code_byte (drop l.b-index l.value)) l.out l.end
