-- `listing_rows::put_entries` meets its contract.
use Rattle.std.proofs.Common.{◌-◌, ◌≤◌, length, drop}
use Rattle.rows.specs.Row.{Row}
use Rattle.listing_lines.proofs.Laws.{Leads}
use Rattle.listing_rows.specs.Lines.{entry_lines}
use Rattle.listing_rows.proofs.put_entries.Given as goal

abbrev pub invariant-loop : goal.invariant-loop
invariant-loop l = record {
  within : l.p ≤ length l.rec;
  row : Row l.kind (l.n - l.counter) (drop l.p l.rec);
  room : l.put ≤ length l.out;
  left : Leads (entry_lines l.kind l.word l.n (drop l.at l.rec)) l.initial.out l.initial.put (entry_lines l.kind l.word (l.n - l.counter) (drop l.p l.rec)) l.out l.put;
}
