-- `file_order::is_above` meets its contract.
use mathlib.Core.Path.{◌≡◌, sym, ap, ap₂, ◌∙◌}
use mathlib.Core.Bool.{Bool, ◌&&◌}
use borrow.Author.Tests.{le-ltb, lt-ltb}
use native.Mathlib.Omega.{arith}
use Rattle.lists.specs.Bytes.{same_bytes}
use Rattle.lists.proofs.Tests.{and-false}
use Rattle.scan.proofs.Equality.{same_pairs}
use Rattle.file_order.proofs.Names.{and-true}
use Rattle.files.specs.Files.{same_name}
use Rattle.file_rows.specs.Places.{file_at}
use Rattle.file_order.proofs.is_above.Goals as goal

pub rank_of-requires : goal.rank_of-requires
rank_of-requires c = c.requires.1

pub rank_of-requires-2 : goal.rank_of-requires-2
rank_of-requires-2 c = c.requires.0

pub name_of-requires : goal.name_of-requires
name_of-requires c = c.requires.1

pub name_of-requires-then-rank_of : goal.name_of-requires-then-rank_of
name_of-requires-then-rank_of c = c.requires.0

pub returns-then-rank_of : goal.returns-then-rank_of
returns-then-rank_of c =
    let f = file_at c.args.set.now c.args.p in
    let g = file_at c.args.set.now c.args.q in
    let same : c.eq.result ≡ same_bytes c.name_of.result.now c.name_of-then-rank_of.result.now = c.eq.ensures ∙ same_pairs _ _ in
    same ∙ ap₂ same_bytes c.name_of.ensures c.name_of-then-rank_of.ensures
    ∙ sym (ap (λ (t : Bool). same_name g f && t) (lt-ltb g.rank f.rank (omega (arith, c.rank_of.ensures, c.rank_of-2.ensures, c.if-rank_of.true))) ∙ and-true (same_name g f))

pub returns-else-rank_of : goal.returns-else-rank_of
returns-else-rank_of c =
    let f = file_at c.args.set.now c.args.p in
    let g = file_at c.args.set.now c.args.q in
    le-ltb c.rank_of.result c.rank_of-2.result c.if-rank_of.false ∙ sym (ap (λ (t : Bool). same_name g f && t) (le-ltb g.rank f.rank (omega (arith, c.rank_of.ensures, c.rank_of-2.ensures, c.if-rank_of.false))) ∙ and-false (same_name g f))
