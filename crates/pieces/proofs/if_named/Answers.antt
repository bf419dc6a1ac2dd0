-- `pieces::if_named` meets its contract.
use mathlib.Core.Path.{sym, ◌∙◌}
use native.Mathlib.Omega.{arith}
use lib.ListN.{drop, length-drop}
use Rattle.pieces.proofs.Names.{name-inside}
use Rattle.pieces.proofs.if_named.Goals as goal

pub overflow_add-result : goal.overflow_add-result
overflow_add-result c =
    let entry = c.args in
    let pre = c.requires in
    let args = entry in
    let k = name-inside args.name.now (drop args.at args.template.now) (sym c.starts_at.ensures ∙ c.if-starts_at.true) in
    omega (arith, length-drop args.at args.template.now, pre.0)

pub returns-then-starts_at : goal.returns-then-starts_at
returns-then-starts_at c =
    let entry = c.args in
    let pre-call = c.requires in
    let args = entry in
    let pre = pre-call in
    let k = name-inside args.name.now (drop args.at args.template.now) (sym c.starts_at.ensures ∙ c.if-starts_at.true) in (
      rw (sym c.starts_at.ensures ∙ c.if-starts_at.true),
      record
          { forward = omega (arith, pre.1); inside = omega (arith, length-drop args.at args.template.now, pre.0); text = pre.2 },
    )

pub returns-else-starts_at : goal.returns-else-starts_at
returns-else-starts_at c = (rw (sym c.starts_at.ensures ∙ c.if-starts_at.false), tt)
