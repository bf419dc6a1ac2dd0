-- `plan_check::has_only` meets its contract.
use mathlib.Core.Path.{ap, ◌∙◌}
use borrow.Author.Tests.{ne_eqb}
use Rattle.lists.specs.Bytes.{among}
use Rattle.plan_check.proofs.Naming.{only_other, only-among}
use Rattle.plan_check.proofs.has_only.Goals as goal

pub has-requires : goal.has-requires
has-requires c =
    let (n, s, e) = c.requires in
    let row = c.claims_in-row.ensures n s e in
    (row.within, row.row)

pub returns-then-row-eq1 : goal.returns-then-row-eq1
returns-then-row-eq1 c =
    λ n s e.
    let row = c.claims_in-row.ensures n s e in
    c.has.ensures ∙ ap (among c.args.link.now) row.named ∙ only-among c.args.link.now s.links _ row.counted c.if-row-eq1.true

pub returns-else-row-eq1 : goal.returns-else-row-eq1
returns-else-row-eq1 c =
    λ n s e.
    let row = c.claims_in-row.ensures n s e in
    ne_eqb c.claims_in-row.result.count 1 c.if-row-eq1.false ∙ only_other c.args.link.now s.links _ row.counted c.if-row-eq1.false
