-- `jumps::is_label` meets its contract.
use mathlib.Core.Path.{sym, ap, ◌∙◌}
use native.Mathlib.Omega.{arith}
use Rattle.lists.specs.Bytes.{same_bytes}
use Rattle.jumps.proofs.Goes.{label-none}
use Rattle.jumps.proofs.Labels.{label_same, name-is, name-places}
use Rattle.jumps.proofs.is_label.Goals as goal

pub value_of-requires : goal.value_of-requires
value_of-requires c =
    let a = c.args in
    let (t, (m, (used, (n, h, x)))) = c.requires.1 in
    name-places a.values.now a.rows.now t a.labels.now m used n a.i x h c.in-Some.row c.in-Some.ensures.0

pub returns-in-Some : goal.returns-in-Some
returns-in-Some c =
    λ t m used n h x.
    let a = c.args in
    c.is_same.ensures ∙ ap (same_bytes a.name.now) (c.value_of.ensures ∙ name-is a.values.now a.rows.now t a.labels.now m used n a.i x h c.in-Some.row c.in-Some.ensures.0)
    ∙ label_same a.values.now a.rows.now t a.labels.now m used n a.i x h a.name.now (omega (arith, c.in-Some.ensures.0))

pub returns-in-None : goal.returns-in-None
returns-in-None c =
    λ t m used n h x.
    let a = c.args in
    label-none a.values.now a.rows.now t a.labels.now m used n a.i x h a.name.now (sym c.in-None.ensures.0)
