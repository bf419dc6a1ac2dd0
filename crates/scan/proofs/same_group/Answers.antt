use mathlib.Core.Path.{sym, ◌∙◌}
use mathlib.Core.Bool.{Bool, true, false}
use mathlib.Core.Path.{◌≡◌}
use native.Mathlib.Omega.{arith}
use Rattle.scan.proofs.Equality.{same-on, same_differs, differs-behind}
use Rattle.scan.proofs.same_group.Goals as goal
use Rattle.scan.proofs.same_group.Goals.{then-a-i, else-a-i}

pub loop-i-preserved : goal.loop-i-preserved
loop-i-preserved c =
    let a = c.args.a.now in
    let b = c.args.b.now in
    let loop = c.loop-i in
    elim c.if-a-i.branch [
      | then-a-i w ↦ (
        (λ e. let z : ◌≡◌ {A = Bool} false true = sym w.same-is ∙ e in cc z),
        λ e. differs-behind a b c.args.at loop.i (omega arith) (same_differs a b loop.i (omega arith) (omega arith) w.if-a-i.true),
      )
      | else-a-i w ↦ (
        (λ e. loop.invariant.0 (sym w.same-is ∙ e) ∙ same-on a b loop.i (omega arith) (omega arith) w.if-a-i.false),
        λ e. loop.invariant.1 (sym w.same-is ∙ e),
      )
    ]
