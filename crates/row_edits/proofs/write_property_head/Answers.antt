-- `row_edits::write_property_head` meets its contract.
use Rattle.std.proofs.Common.{rules}
use Rattle.std.proofs.Common.{arith}
use Rattle.row_edits.proofs.Writes.{property_head}
use Rattle.row_edits.proofs.write_property_head.Goals as goal

pub returns : goal.returns
returns c =
    let x = c.args in
    let a = x in
    let put = c.put-next in
    let put2 = c.put in
    property_head a.head.now put.new.s put2.new.s put.result.at a.key a.value c.requires (λ i. search rules) put.ensures.bytes put.ensures.next put2.ensures.bytes
