-- `listing_run::list_closed` meets its contract.
use Rattle.std.proofs.Common.{sym, ◌∙◌, subst, length, take}
use lib.Seq.{length-take-le}
use Rattle.device.specs.Device.{chain}
use Rattle.outcome_target.specs.Held.{Held}
use Rattle.outcome_target.specs.declared.Layout.{Layout}
use Rattle.engine.specs.Listing.{listing_of, printed}
use Rattle.listing_lines.specs.Lines.{refusal_line}
use Rattle.listing_lines.proofs.Laws.{appended_as}
use Rattle.listing_commands.proofs.Laws.{list_stands}
use Rattle.listing_run.specs.Listed.{closed_listing}
use Rattle.listing_run.proofs.Laws.{checked_layout, checked_sound, left-within, left_read, close-refused, close-made, made-listing}
use Rattle.listing_run.proofs.list_closed.Goals as goal

pub slice_bounds-close-end : goal.slice_bounds-close-end
slice_bounds-close-end c =
    let x = c.args in
    let (d, s, w) = c.requires in
    sym (length-take-le x.used x.t.now (left-within x.device.now x.t.now x.used d s w))

pub returns-then-closed-ne0 : goal.returns-then-closed-ne0
returns-then-closed-ne0 c =
    let x = c.args in
    let closed = c.close-closed in
    let put = c.put_refusal_line in
    λ d s w.
    appended_as (refusal_line closed.result.number closed.result.line) (printed (closed_listing x.visited x.tried d s)) x.out.now 0 put.result put.new.out
    (close-refused x.device.now x.t.now x.used d s w closed.result closed.new.target closed.ensures x.visited x.tried c.if-closed-ne0.true)
    put.ensures

pub chain_of-chain-requires : goal.chain_of-chain-requires
chain_of-chain-requires c =
    let (d, s, w) = c.requires in
    (d, w.device)

pub slice_bounds-check-end : goal.slice_bounds-check-end
slice_bounds-check-end c =
    let x = c.args in
    let (d, s, w) = c.requires in
    sym (length-take-le x.used x.t.now (left-within x.device.now x.t.now x.used d s w))

pub returns-in_err-layout : goal.returns-in_err-layout
returns-in_err-layout c =
    let x = c.args in
    λ d s w.
    absurd (checked_sound (length (chain d)) c.chain_of-chain.result.len (take x.used x.t.now) s (c.chain_of-chain.ensures d w.device).len
    (left_read x.device.now x.t.now x.used d s w) c.in_err-layout.ensures)

pub put_both-requires : goal.put_both-requires
put_both-requires c =
    let x = c.args in
    let closed = c.close-closed in
    let (d, s, w) = c.requires in
    let (cs, q, m) = close-made x.device.now x.t.now x.used d s w closed.result closed.new.target closed.ensures c.if-closed-ne0.false in
    let e =
    checked_layout (length (chain d)) c.chain_of-chain.result.len (take x.used x.t.now) s (c.chain_of-chain.ensures d w.device).len
    (left_read x.device.now x.t.now x.used d s w) c.in_ok-layout.layout c.in_ok-layout.ensures in (
      (length (chain d), s, subst (λ (lay : Layout). Held (length (chain d)) x.t.now lay s) (sym e) w.held),
      rw m.bytes (list_stands cs m.few m.short m.rest),
    )

pub returns : goal.returns
returns c =
    let x = c.args in
    let closed = c.close-closed in
    let put = c.put_both in
    λ d s w.
    let (cs, q, m) = close-made x.device.now x.t.now x.used d s w closed.result closed.new.target closed.ensures c.if-closed-ne0.false in
    let e =
    checked_layout (length (chain d)) c.chain_of-chain.result.len (take x.used x.t.now) s (c.chain_of-chain.ensures d w.device).len
    (left_read x.device.now x.t.now x.used d s w) c.in_ok-layout.layout c.in_ok-layout.ensures in
    appended_as (listing_of x.visited x.tried s cs) (printed (closed_listing x.visited x.tried d s)) x.out.now 0 put.result put.new.out
    (made-listing x.device.now x.t.now x.used d s w x.visited x.tried cs q)
    (put.ensures (length (chain d)) s (subst (λ (lay : Layout). Held (length (chain d)) x.t.now lay s) (sym e) w.held) cs m)
