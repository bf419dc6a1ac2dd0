-- `listing_lines::put_escaped` meets its contract.
use Rattle.std.proofs.Common.{◌≤◌, length, drop}
use Rattle.listing_lines.proofs.Laws.{Leads}
use Rattle.engine.specs.Listing.{escaped}
use Rattle.listing_lines.proofs.put_escaped.Given as goal

abbrev pub invariant-loop-b : goal.invariant-loop-b
invariant-loop-b l = record {
  room : l.end ≤ length l.out;
  left : Leads (escaped l.text) l.initial.out l.initial.end (escaped (drop l.b-index l.text)) l.out l.end;
}
