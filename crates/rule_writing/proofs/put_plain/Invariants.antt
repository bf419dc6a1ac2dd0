-- `rule_writing::put_plain` meets its contract.
use Prim.Native.Nat.{◌-◌, ◌≤◌}
use lib.ListN.{length, drop}
use Rattle.lists.specs.Lists.{cat}
use Rattle.rule_writing.proofs.Writes.{Writes}
use Rattle.writing.specs.Writing.{plain_byte}
use Rattle.rule_writing.proofs.put_plain.Given as goal

abbrev pub invariant-loop-b : goal.invariant-loop-b
invariant-loop-b l = (l.b-index ≤ length l.value) × Writes (cat plain_byte l.value) l.initial.out l.used (cat plain_byte (drop l.b-index l.value)) l.out l.end
