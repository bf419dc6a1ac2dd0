use Rattle.std.proofs.Common.{◌<◌, length, arith}
use Rattle.engine.specs.Listing.{escaped}
use Rattle.listing_lines.proofs.Laws.{leads_next, leads_stop, leads_end}
use Rattle.listing_lines.proofs.put_escaped.Goals as goal

pub loop-b-init : goal.loop-b-init
loop-b-init c = record { room = c.requires; left = λ r l₂ q. q }

pub returns-in_err-end : goal.returns-in_err-end
returns-in_err-end c =
    let a = c.args in
    let h : c.loop-b.b-index < length a.text.now = omega arith in
    rw c.from_residual.ensures
    (leads_stop (escaped a.text.now) a.out.now a.used a.text.now c.loop-b.b-index c.loop-b.out c.loop-b.end c.loop-b.invariant.left h c.in_err-end.ensures)

pub loop-b-preserved : goal.loop-b-preserved
loop-b-preserved c =
    let a = c.args in
    let h : c.loop-b.b-index < length a.text.now = omega arith in
    record {
      room = omega (arith, c.in_ok-end.ensures);
      left = leads_next (escaped a.text.now) a.out.now a.used a.text.now c.loop-b.b-index c.loop-b.out c.loop-b.end c.loop-b.invariant.left h _ _ c.in_ok-end.ensures;
    }

pub returns : goal.returns
returns c =
    let a = c.args in
    leads_end (escaped a.text.now) a.out.now a.used a.text.now c.loop-b.b-index c.loop-b.out c.loop-b.end c.loop-b.invariant.left c.loop-b.invariant.room (omega arith)
