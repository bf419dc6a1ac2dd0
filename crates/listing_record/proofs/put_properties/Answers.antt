-- `listing_record::put_properties` meets its contract.
use Rattle.listing_record.specs.Lines.{property_lines}
use Rattle.listing_rows.proofs.Laws.{property-lines}
use Rattle.listing_rows.specs.Lines.{entry_lines}
use Rattle.listing_lines.proofs.Laws.{appended_as}
use Rattle.rows.specs.declared.Kind.TheVariants as kind
use lib.ListN.{drop}
use Rattle.listing_record.proofs.put_properties.Goals as goal

pub put_entries-requires-clause-row : goal.put_entries-requires-clause-row
put_entries-requires-clause-row c =
    let (n, s, h) = c.requires.held in
    let w = c.row_of-row.ensures n s h in
    (w.within, w.row)

pub returns : goal.returns
returns c =
    let x = c.args in
    let row = c.row_of-row in
    let put = c.put_entries in
    λ n s h.
    let w = row.ensures n s h in
    appended_as (entry_lines kind.Property x.word.now row.result.count (drop row.result.at x.t.now)) (property_lines x.word.now s.properties)
    x.out.now x.used put.result put.new.out
    (property-lines x.word.now row.result.count (drop row.result.at x.t.now) s.properties w.read.0 w.read.1) put.ensures
