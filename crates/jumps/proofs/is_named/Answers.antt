-- `jumps::is_named` meets its contract: names with different hashes differ, and others are compared.
use mathlib.Core.Path.{sym, ◌∙◌}
use Rattle.jumps.proofs.Labels.{label-apart}
use Rattle.jumps.proofs.is_named.Goals as goal

pub returns-then-from-hash : goal.returns-then-from-hash
returns-then-from-hash c =
    let a = c.args in
    λ t m used n h x e. label-apart a.values.now a.rows.now t a.labels.now m used n a.i x h _ c.requires.3 (λ q. c.if-from-hash.true (c.from.ensures ∙ e ∙ q ∙ sym c.requires.0))

pub returns : goal.returns
returns c = λ t m used n h x e. c.is_label.ensures t m used n h x
