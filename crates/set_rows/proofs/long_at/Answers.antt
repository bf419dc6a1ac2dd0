-- `set_rows::long_at` meets its contract.
use mathlib.Core.Path.{refl}
use native.Mathlib.Omega.{arith}
use Rattle.set_rows.proofs.Longs.{length_read, long-is, no_head, no_text}
use Rattle.set_rows.proofs.long_at.Goals as goal

pub returns-then-room-lt2 : goal.returns-then-room-lt2
returns-then-room-lt2 c = no_head c.args.set.now c.args.p c.requires (omega (arith, c.if-room-lt2.true))

pub returns-then-room-len : goal.returns-then-room-len
returns-then-room-len c =
    let n = length_read c.args.set.now c.args.p c.length_in-len.result c.length_in-len.ensures.0 in
    no_text c.args.set.now c.args.p c.requires (omega (arith, c.if-room-lt2.false)) (omega (arith, n, c.if-room-len.true))

pub returns : goal.returns
returns c =
    let n = length_read c.args.set.now c.args.p c.length_in-len.result c.length_in-len.ensures.0 in
    long-is c.args.set.now c.args.p c.requires _ refl (omega (arith, n)) (omega (arith, c.if-room-len.false, c.if-room-lt2.false))
