-- `file_rows::name_at` meets its contract.
use Prim.Native.Nat.{◌<◌}
use lib.ListN.{length}
use mathlib.Core.Logic.{inl, inr}
use mathlib.Core.Path.{refl}
use Rattle.file_rows.proofs.Names.{none_there, name_outside, name-empty, name-long, name-is}
use native.Mathlib.Omega.{arith}
use Rattle.file_rows.proofs.name_at.Goals as goal

pub returns-then-room-lt1 : goal.returns-then-room-lt1
returns-then-room-lt1 c = none_there c.args.set.now c.args.p (omega (arith, c.if-room-lt1.true))

pub returns-then-room-len : goal.returns-then-room-len
returns-then-room-len c =
    let set = c.args.set.now in
    let some : c.args.p < length set = omega (arith, c.if-room-lt1.false) in
    let sized = c.from-len.ensures in
    elim c.then-room-len.either [
      | inl l ↦ name_outside set c.args.p some (omega (arith, sized, l))
      | inr m ↦ elim m [
        | inl l ↦ name-empty set c.args.p some (omega (arith, sized, l.0)) (omega (arith, sized, l.1))
        | inr l ↦ name-long set c.args.p some (omega (arith, sized, l.0)) (omega (arith, sized, l.2))
      ]
    ]

pub returns : goal.returns
returns c =
    name-is c.args.set.now c.args.p (omega (arith, c.if-room-lt1.false)) _ refl (omega (arith, c.from-len.ensures)) (omega (arith, c.if-room-len.false, c.if-room-lt1.false)) (omega (arith, c.from-len.ensures, c.if-len-lt1.false)) (omega (arith, c.from-len.ensures, c.if-len-gt-MOST_NAME.false))
