use mathlib.Core.Path.{refl, ◌∙◌}
use Prim.Native.Nat.{◌-◌}
use Rattle.link_names.proofs.Names.{name_at_lem, names_space, names-end}
use native.Mathlib.Omega.{arith}
use Rattle.link_names.proofs.name_from.Goals as goal

pub loop-start-init : goal.loop-start-init
loop-start-init c = refl

pub returns-then-text-start-ne32 : goal.returns-then-text-start-ne32
returns-then-text-start-ne32 c =
    let entry = c.args in
    let loop = c.loop-start in
    let (n, u, v) =
    name_at_lem entry.text.now loop.start (omega arith) c.if-text-start-ne32.true c.run_end.result c.run_end.ensures in
    (loop.invariant ∙ n, omega arith, u, v)

pub loop-start-preserved : goal.loop-start-preserved
loop-start-preserved c =
    let entry = c.args in
    let loop = c.loop-start in
    loop.invariant ∙ names_space entry.text.now loop.start (omega arith) c.if-text-start-ne32.false

pub returns : goal.returns
returns c = c.loop-start.invariant ∙ names-end c.args.text.now c.loop-start.start (omega arith)
