-- `claims::claim_at` meets its contract.
use Rattle.std.specs.Prelude.{Some, None}
use lib.IntN.{ℤ}
use mathlib.Core.Bool.{Bool, true, false}
use Rattle.lists.specs.Lists.{pick}
use Rattle.contest.specs.Contest.{claims, rank}
use mathlib.Core.Path.{◌≡◌, sym, ap, ◌∙◌}
use borrow.Author.Rules.{rules}
use mir.Facts.{to_z-of_z}
use mir.Syntax.{w32}
use Rattle.claims.proofs.Records.{first-from, first-here}
use Rattle.lists.specs.Bytes.{among}
use Rattle.outcome.specs.State.{decode}
use Rattle.claims.proofs.claim_at.Goals as goal

pub lent_in-requires : goal.lent_in-requires
lent_in-requires c =
    let entry = c.args in
    let pre = c.requires in
    first-from entry.set.now entry.p (pre)

pub bytes_of-rec-requires : goal.bytes_of-rec-requires
bytes_of-rec-requires c =
    let lent-in = c.lent_in in
    lent-in.ensures.outcome

pub claims_in-row-requires : goal.claims_in-row-requires
claims_in-row-requires c =
    let pre = c.requires in
    let entry = c.args in
    let lent-in = c.lent_in in
    let bytes_of = c.bytes_of-rec in
    let (s, ss, w) = pre in
    let here = first-here entry.set.now entry.p lent-in.result lent-in.ensures s ss w in
    let held : decode here.chain bytes_of.result.now ≡ Some s = ap (decode here.chain) bytes_of.ensures ∙ here.held in
    (here.chain, s, held)

pub has-made-requires : goal.has-made-requires
has-made-requires c =
    let pre = c.requires in
    let entry = c.args in
    let lent-in = c.lent_in in
    let bytes_of = c.bytes_of-rec in
    let claims-in = c.claims_in-row in
    let (s, ss, w) = pre in
    let here = first-here entry.set.now entry.p lent-in.result lent-in.ensures s ss w in
    let held : decode here.chain bytes_of.result.now ≡ Some s = ap (decode here.chain) bytes_of.ensures ∙ here.held in
    let row = claims-in.ensures here.chain s held in
    (row.within, row.row)

pub returns-then-made : goal.returns-then-made
returns-then-made c =
    let entry = c.args in
    λ s ss w.
    let here = first-here entry.set.now entry.p c.lent_in.result c.lent_in.ensures s ss w in
    let held : decode here.chain c.bytes_of-rec.result.now ≡ Some s = ap (decode here.chain) c.bytes_of-rec.ensures ∙ here.held in
    let row = c.claims_in-row.ensures here.chain s held in
    let made : claims entry.name.now s ≡ true = sym (c.has-made.ensures ∙ ap (among entry.name.now) row.named) ∙ c.if-made.true in
    record {
      priority = ap (λ (z : ℤ). Some z) (to_z-of_z {w = w32} {z = c.claims_in-row.result.priority} (search rules) ∙ row.priority) ∙ sym (ap (λ (t : Bool). pick t (Some (rank s)) None) made);
      others = here.others;
    }

pub returns-else-made : goal.returns-else-made
returns-else-made c =
    let entry = c.args in
    λ s ss w.
    let here = first-here entry.set.now entry.p c.lent_in.result c.lent_in.ensures s ss w in
    let held : decode here.chain c.bytes_of-rec.result.now ≡ Some s = ap (decode here.chain) c.bytes_of-rec.ensures ∙ here.held in
    let row = c.claims_in-row.ensures here.chain s held in
    let made : claims entry.name.now s ≡ false = sym (c.has-made.ensures ∙ ap (among entry.name.now) row.named) ∙ c.if-made.false in
    record {
      priority = sym (ap (λ (t : Bool). pick t (Some (rank s)) None) made);
      others = here.others;
    }
