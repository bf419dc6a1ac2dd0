use mathlib.Core.Path.{refl, ◌∙◌}
use lib.ListN.{length}
use Prim.Native.Nat.{◌<◌}
use Rattle.link_names.specs.Names.{byte_but}
use Rattle.link_names.proofs.Cleaning.{cleaned-turn, cleaned-all}
use native.Mathlib.Omega.{arith}
use Rattle.link_names.proofs.clean.Goals as goal

pub loop-b-init : goal.loop-b-init
loop-b-init c = refl

pub loop-b-preserved : goal.loop-b-preserved
loop-b-preserved c =
    let entry = c.args in
    let loop = c.loop-b in
    cleaned-turn (byte_but entry.spaces) entry.x.now loop.b-index loop.x loop.invariant c.clean_but.result (omega arith) c.clean_but.ensures

pub returns : goal.returns
returns c =
    let entry = c.args in
    c.loop-b.invariant ∙ cleaned-all (byte_but entry.spaces) entry.x.now c.loop-b.b-index (omega arith)
