-- `row_edits::write_run_head` meets its contract.
use Rattle.std.proofs.Common.{rules}
use Rattle.std.proofs.Common.{arith}
use Prim.Native.Nat.{ℕ, ◌+◌}
use mathlib.Core.Path.{ap, ◌∙◌}
use Rattle.row_edits.proofs.Writes.{run_head}
use Rattle.row_edits.proofs.write_run_head.Goals as goal

pub returns : goal.returns
returns c =
    let pre = c.requires in
    let entry = c.args in
    let slice-known = c.type_inv.head in
    let put = c.put-place_at in
    let put2 = c.put-len_at in
    let put3 = c.put-unused_at in
    let put4 = c.put in
    let second = put2.ensures.next ∙ ap (λ (i : ℕ). i + 5) put.ensures.next in
    let third = put3.ensures.next ∙ ap (λ (i : ℕ). i + 9) second in
    run_head entry.head.now put.new.s put2.new.s put3.new.s put4.new.s put.result.at put2.result.at put3.result.at
    entry.builtin entry.place entry.len pre (λ i. search rules)
    put.ensures.bytes put.ensures.next put2.ensures.bytes second put3.ensures.bytes third put4.ensures.bytes
