use mathlib.Core.Path.{◌≡◌, sym, ◌∙◌}
use native.Mathlib.Omega.{arith}
use Rattle.scan.proofs.Ends.{run-begins, run-goes-on, run_stops, run_out}
use Rattle.scan.proofs.run_end.Goals as goal

pub loop-i-init : goal.loop-i-init
loop-i-init g c = run-begins (g.C.Class.holds c.args.class) _ _

pub returns-then-not-has : goal.returns-then-not-has
returns-then-not-has g c =
    let loop = c.loop-i in
    run_stops (g.C.Class.holds c.args.class) _ _ _ loop.invariant (omega arith) (sym c.has.ensures ∙ c.if-not-has.true)

pub loop-i-preserved : goal.loop-i-preserved
loop-i-preserved g c =
    let loop = c.loop-i in
    run-goes-on (g.C.Class.holds c.args.class) _ _ _ loop.invariant (omega arith) (sym c.has.ensures ∙ c.if-not-has.false)

pub returns : goal.returns
returns g c =
    let loop = c.loop-i in
    let e : c.max.result ≡ loop.i = omega (arith, loop.invariant.from, loop.invariant.within, c.max.ensures) in
    rw e (run_out (g.C.Class.holds c.args.class) _ _ _ loop.invariant (omega arith))
