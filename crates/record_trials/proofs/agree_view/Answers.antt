use Rattle.std.proofs.Common.{◌≡◌, ℕ, suc, ◌+◌, ◌<◌, length, sym, ◌∙◌, subst, arith}
use Rattle.std.specs.Prelude.{Some}
use borrow.Author.Tests.{not-false, ltb-true}
use Rattle.lists.specs.Bytes.{Bytes}
use Rattle.lists.proofs.Records.{nth_there}
use Rattle.device.specs.Device.{Device, chain, decode}
use Rattle.device_view.specs.View.{Stands}
use Rattle.device_view.proofs.Chain.{event_stands}
use Rattle.record_trials.proofs.agree_view.Goals as goal

pub loop-here-init : goal.loop-here-init
loop-here-init c = λ d e.
    let rec = c.args.rec.now in
    let b : Bytes rec = λ i. (c.type_inv.rec i).fits in
    (d.event, event_stands rec d b e c.args.chain (c.requires.1 d e))

pub has_parent_at-requires : goal.has_parent_at-requires
has_parent_at-requires c = (c.loop-here.invariant c.requires.0.0 c.requires.0.1).1.standing

pub parent_at-at-requires : goal.parent_at-at-requires
parent_at-at-requires c = (c.loop-here.invariant c.requires.0.0 c.requires.0.1).1.standing

pub loop-here-preserved : goal.loop-here-preserved
loop-here-preserved c = λ d e.
    let rec = c.args.rec.now in
    let (m, w) = c.loop-here.invariant d e in
    let here = c.loop-here.here in
    -- there is a further place
    let further : here < length (chain d) =
    ltb-true here (length (chain d)) (sym (c.has_parent_at.ensures d e here m w.place) ∙ not-false _ c.if-not-has_parent_at.false-raw) in
    let (p, g) = nth_there (chain d) here further in
    let k : suc here ≡ here + 1 = omega arith in
    (p, subst (λ (n : ℕ). Stands rec d n c.parent_at-at.result p) k (c.parent_at-at.ensures.1 d e here m p w.place g))

pub agree_device-requires : goal.agree_device-requires
agree_device-requires c = (c.loop-here.invariant c.requires.0.0 c.requires.0.1).1.standing
