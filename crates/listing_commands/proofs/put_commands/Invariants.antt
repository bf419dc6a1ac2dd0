-- `listing_commands::put_commands` meets its contract.
use Rattle.std.proofs.Common.{◌-◌, ◌≤◌, length, drop}
use Rattle.bits.specs.Bits.{number_at}
use Rattle.listing_lines.proofs.Laws.{Leads}
use Rattle.listing_commands.specs.Lines.{Entries, entry_lines}
use Rattle.listing_commands.proofs.put_commands.Given as goal

abbrev pub invariant-loop : goal.invariant-loop
invariant-loop l = record {
  within : l.at ≤ length l.list;
  entries : Entries (number_at l.list 0 5 - l.counter) (drop l.at l.list);
  room : l.put ≤ length l.out;
  left : Leads (entry_lines (number_at l.list 0 5) (drop 1 l.list)) l.initial.out l.initial.put (entry_lines (number_at l.list 0 5 - l.counter) (drop l.at l.list)) l.out l.put;
}
