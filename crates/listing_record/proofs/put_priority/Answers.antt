-- `listing_record::put_priority` meets its contract.
use Rattle.listing_lines.proofs.Laws.{appended_as}
use Rattle.bits.specs.Signed.{to_signed}
use Rattle.engine.specs.Listing.{signed, line_of}
use Rattle.outcome_target.proofs.Facts.{held_number, held_head}
use Rattle.outcome.specs.Head.{Head}
use mathlib.Core.Path.{◌≡◌, ap, ◌∙◌}
use lib.IntN.{ℤ}
use mir.Facts.{to_z-of_z}
use mir.Syntax.{w32}
use mir.Val.{to_z, of_z}
use native.Mathlib.Omega.{arith}
use Rattle.listing_record.proofs.put_priority.Goals as goal

pub returns : goal.returns
returns c =
    let entry = c.args in
    let field = c.field-priority in
    let to-signed = c.to_signed in
    let put-signed-line = c.put_signed_line in
    let word = entry.word.now in
    let t = entry.t.now in
    let z = to_z w32 (of_z w32 to-signed.result) in
    λ n s h.
    let number : field.result ≡ s.priority =
    field.ensures.0 ∙ held_number n t entry.layout s h 35 32 (omega arith) ∙ ap (λ (x : Head). x.priority) (held_head n t entry.layout s h) in
    let e : z ≡ to_signed s.priority = to_z-of_z {w = w32} {z = to-signed.result} (record { sfits = to-signed.type_inv }) ∙ to-signed.ensures ∙ ap to_signed number in
    appended_as (line_of word (signed z)) (line_of word (signed (to_signed s.priority))) entry.out.now entry.used
    put-signed-line.result put-signed-line.new.out (ap (λ (i : ℤ). line_of word (signed i)) e) put-signed-line.ensures
