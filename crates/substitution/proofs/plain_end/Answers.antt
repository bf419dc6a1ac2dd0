use Prim.Native.Nat.{◌-◌}
use mathlib.Core.Path.{sym, ◌∙◌}
use native.Mathlib.Omega.{arith}
use borrow.Author.Tests.{not-true, not-false}
use Rattle.substitution.specs.Turns.{is_plain}
use Rattle.scan.proofs.Ends.{run-begins, run-goes-on, run_stops, run_out}
use Rattle.substitution.proofs.plain_end.Goals as goal

pub loop-i-init : goal.loop-i-init
loop-i-init c = run-begins is_plain _ _

pub returns-then-not-is_plain : goal.returns-then-not-is_plain
returns-then-not-is_plain c =
    let loop = c.loop-i in
    run_stops is_plain _ _ _ loop.invariant (omega arith) (sym c.is_plain.ensures ∙ not-true _ c.if-not-is_plain.true-raw)

pub loop-i-preserved : goal.loop-i-preserved
loop-i-preserved c =
    let loop = c.loop-i in
    run-goes-on is_plain _ _ _ loop.invariant (omega arith) (sym c.is_plain.ensures ∙ not-false _ c.if-not-is_plain.false-raw)

pub returns : goal.returns
returns c = run_out is_plain _ _ _ c.loop-i.invariant (omega arith)
