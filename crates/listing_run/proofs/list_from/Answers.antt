-- `listing_run::list_from` meets its contract.
use mathlib.Core.Path.{sym}
use Rattle.engine.specs.Listing.{printed, listing_from}
use Rattle.listing_lines.specs.Lines.{refusal_line}
use Rattle.listing_lines.proofs.Laws.{appended_as}
use Rattle.listing_run.specs.Listed.{closed_listing}
use Rattle.listing_run.proofs.Laws.{run-refused, run-left}
use Rattle.listing_run.proofs.list_from.Goals as goal

pub returns-then-ran-ne0 : goal.returns-then-ran-ne0
returns-then-ran-ne0 c =
    let a = c.args in
    let run = c.run-ran in
    let put = c.put_refusal_line in
    let said = refusal_line run.result.number run.result.line in
    appended_as said (listing_from a.text.now a.device.now a.outcome.now a.sheet.now) a.out.now 0 put.result put.new.out
    (run-refused a.text.now a.device.now a.outcome.now a.sheet.now run.result run.new.target run.ensures c.if-ran-ne0.true)
    put.ensures

pub list_closed-requires : goal.list_closed-requires
list_closed-requires c =
    let a = c.args in
    let run = c.run-ran in
    let (d, s, w, e) =
    run-left a.text.now a.device.now a.outcome.now a.sheet.now run.result run.new.target run.ensures
    (λ i. (c.type_inv.outcome i).fits) (λ i. (c.type_inv.sheet i).fits)
    run.auto.target c.if-ran-ne0.false
    in
    (d, s, w)

pub returns : goal.returns
returns c =
    let a = c.args in
    let run = c.run-ran in
    let list-closed = c.list_closed in
    let (d, s, w, e) =
    run-left a.text.now a.device.now a.outcome.now a.sheet.now run.result run.new.target run.ensures
    (λ i. (c.type_inv.outcome i).fits)
    (λ i. (c.type_inv.sheet i).fits)
    run.auto.target c.if-ran-ne0.false
    in
    appended_as (printed (closed_listing run.result.visited run.result.tried d s))
    (listing_from a.text.now a.device.now a.outcome.now a.sheet.now) a.out.now 0 list-closed.result list-closed.new.out (sym e)
    (list-closed.ensures d s w)
