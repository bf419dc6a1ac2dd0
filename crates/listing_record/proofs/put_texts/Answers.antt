-- `listing_record::put_texts` meets its contract.
use Rattle.listing_record.specs.Lines.{text_lines}
use Rattle.listing_rows.proofs.Laws.{text-lines}
use Rattle.listing_rows.specs.Lines.{entry_lines}
use Rattle.listing_lines.proofs.Laws.{appended_as}
use Rattle.outcome_readers.proofs.Texts.{text-row}
use Rattle.outcome_target.specs.Texts.{texts_in}
use Rattle.rows.specs.declared.Kind.TheVariants as kind
use lib.ListN.{drop}
use mathlib.Core.Path.{ap, ◌∙◌}
use Rattle.listing_record.proofs.put_texts.Goals as goal

pub put_entries-requires-clause-row : goal.put_entries-requires-clause-row
put_entries-requires-clause-row c =
    let x = c.args in
    let (n, s, h) = c.requires.held in
    let w = text-row x.list c.section_of.result c.section_of.ensures n x.t.now s c.row_of-row.result (c.row_of-row.ensures n s h) in
    (w.within, w.row)

pub returns : goal.returns
returns c =
    let x = c.args in
    let row = c.row_of-row in
    let put = c.put_entries in
    λ n s h.
    let w = text-row x.list c.section_of.result c.section_of.ensures n x.t.now s row.result (row.ensures n s h) in
    appended_as (entry_lines kind.Text x.word.now row.result.count (drop row.result.at x.t.now)) (text_lines x.word.now (texts_in x.list s))
    x.out.now x.used put.result put.new.out
    (text-lines x.word.now row.result.count (drop row.result.at x.t.now) ∙ ap (text_lines x.word.now) w.named) put.ensures
