-- `file_order::same_file` meets its contract.
use mathlib.Core.Path.{◌≡◌, sym, ap, ap₂, ◌∙◌}
use mathlib.Core.Bool.{Bool, ◌&&◌}
use borrow.Author.Tests.{ne_eqb, eq-eqb}
use Rattle.lists.specs.Bytes.{same_bytes}
use Rattle.lists.proofs.Tests.{and-false}
use Rattle.scan.proofs.Equality.{same_pairs}
use Rattle.file_order.proofs.Names.{and-true}
use Rattle.files.specs.Files.{same_name}
use Rattle.file_rows.specs.Places.{file_at}
use Rattle.file_order.proofs.same_file.Goals as goal

pub rank_of-requires : goal.rank_of-requires
rank_of-requires c = c.requires.0

pub rank_of-requires-2 : goal.rank_of-requires-2
rank_of-requires-2 c = c.requires.1

pub name_of-requires : goal.name_of-requires
name_of-requires c = c.requires.0

pub name_of-requires-then-rank_of : goal.name_of-requires-then-rank_of
name_of-requires-then-rank_of c = c.requires.1

pub returns-then-rank_of : goal.returns-then-rank_of
returns-then-rank_of c =
    let f = file_at c.args.set.now c.args.p in
    let g = file_at c.args.set.now c.args.q in
    let same : c.eq.result ≡ same_bytes c.name_of.result.now c.name_of-then-rank_of.result.now = c.eq.ensures ∙ same_pairs _ _ in
    same ∙ ap₂ same_bytes c.name_of.ensures c.name_of-then-rank_of.ensures
    ∙ sym (ap (λ (t : Bool). same_name f g && t) (eq-eqb f.rank g.rank (sym c.rank_of.ensures ∙ c.if-rank_of.true ∙ c.rank_of-2.ensures)) ∙ and-true (same_name f g))

pub returns-else-rank_of : goal.returns-else-rank_of
returns-else-rank_of c =
    let f = file_at c.args.set.now c.args.p in
    let g = file_at c.args.set.now c.args.q in
    ne_eqb c.rank_of.result c.rank_of-2.result c.if-rank_of.false ∙ sym (ap (λ (t : Bool). same_name f g && t) (ne_eqb f.rank g.rank (λ e. c.if-rank_of.false (c.rank_of.ensures ∙ e ∙ sym c.rank_of-2.ensures))) ∙ and-false (same_name f g))
