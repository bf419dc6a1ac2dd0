-- `listing_record::put_counts` meets its contract.
use Rattle.std.proofs.Common.{arith, length-append}
use Rattle.lists.specs.Quoted.{bytes}
use Rattle.template.specs.Decimal.{decimal}
use Rattle.engine.specs.Listing.{line_of}
use Rattle.listing_lines.proofs.Laws.{behind}
use Rattle.listing_record.proofs.put_counts.Goals as goal

pub returns-in_err-visits : goal.returns-in_err-visits
unfolding bytes
returns-in_err-visits c = rw c.from_residual.ensures (simp length-append (omega (arith, c.in_err-visits.ensures)))

pub returns : goal.returns
unfolding bytes
returns c =
    let tries = c.put_number_line-2 in
    behind c.in_ok-visits.ensures (line_of (bytes "tried") (decimal c.args.tried)) tries.result tries.new.out tries.ensures
