-- `listing_record::put_lists` meets its contract.
use Rattle.std.proofs.Common.{◌++◌, arith, length-append}
use Rattle.lists.specs.Quoted.{bytes}
use Rattle.listing_lines.proofs.Laws.{behind}
use Rattle.listing_record.specs.Lines.{text_lines, property_lines}
use Rattle.listing_record.proofs.put_lists.Goals as goal

pub returns-in_err-links : goal.returns-in_err-links
unfolding bytes
returns-in_err-links c = rw c.from_residual.ensures (λ n s h. simp length-append (omega (arith, c.in_err-links.ensures n s h)))

pub returns-in_err-properties : goal.returns-in_err-properties
unfolding bytes
returns-in_err-properties c =
    rw c.from_residual-in_err-properties.ensures
    (λ n s h. simp length-append (omega (arith, c.in_ok-links.ensures n s h, c.in_err-properties.ensures n s h)))

pub returns : goal.returns
unfolding bytes
returns c =
    let last = c.put_texts-2 in
    λ n s h.
    let properties = property_lines (bytes "env") s.properties in
    let tags = text_lines (bytes "tag") s.tags in
    behind (c.in_ok-links.ensures n s h) (properties ++ tags) last.result last.new.out
    (behind (c.in_ok-properties.ensures n s h) tags last.result last.new.out (last.ensures n s h))
