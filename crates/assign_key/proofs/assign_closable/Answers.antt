-- `assign_key::assign_closable` meets its contract.
use Rattle.assign_key.proofs.Keys.{skipped, not_skipped, says_same}
use Rattle.assign_key.specs.Keys.{work_of}
use Rattle.device.specs.Device.{chain}
use lib.ListN.{length}
use native.Mathlib.Omega.{arith}
use Rattle.assign_key.proofs.assign_closable.Goals as goal

pub is_closed-requires : goal.is_closed-requires
is_closed-requires c = let (d, s, h) = c.requires.0 in omega (arith, h.held.room)

pub returns-then-is_closed : goal.returns-then-is_closed
returns-then-is_closed c =
    let x = c.args in
    λ p i d s h. (s, skipped x.key d x.place p (work_of s x.work.escape) c.is_closed.result (c.is_closed.ensures (length (chain d)) x.work.layout s h.held) c.if-is_closed.true, h.held)

pub returns : goal.returns
returns c =
    let x = c.args in
    λ p i d s h. says_same (length (chain d)) _ c.change_closable.result _ _ (not_skipped x.key d x.place p (work_of s x.work.escape)
    c.is_closed.result
    (c.is_closed.ensures (length (chain d)) x.work.layout s h.held) c.if-is_closed.false)
    (c.change_closable.ensures p i d s h)
