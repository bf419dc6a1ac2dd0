-- `plan_rows::wish_at` meets its contract.
use lib.ListN.{drop, length}
use Prim.Native.Nat.{◌<◌}
use mathlib.Core.Path.{refl, sym, subst}
use Rattle.rows.specs.Entry.{size, Placed}
use Rattle.rows.specs.declared.Kind.TheVariants as kind
use Rattle.set_rows.specs.Places.{LongIs}
use Rattle.plan_rows.specs.Places.{WishReads}
use Rattle.plan_rows.proofs.Wishes.{no_link, no-wish, wish-is}
use Rattle.plan_rows.proofs.wish_at.Goals as goal

pub entry_at-requires : goal.entry_at-requires
entry_at-requires c =
    let is : LongIs c.args.set.now c.args.p c.in_ok-device.device = c.in_ok-device.ensures in
    is.inside.within

pub returns-in_err-link : goal.returns-in_err-link
returns-in_err-link c =
    let is : LongIs c.args.set.now c.args.p c.in_ok-device.device = c.in_ok-device.ensures in
    let none : length (drop c.in_ok-device.device.end c.args.set.now) < size kind.Text (drop c.in_ok-device.device.end c.args.set.now) = c.in_err-link.ensures in
    subst (WishReads c.args.set.now c.args.p) (sym c.from_residual-in_err-link.ensures)
    (no-wish c.args.set.now c.args.p c.in_ok-device.device is (no_link c.args.set.now c.in_ok-device.device.end none))

pub returns : goal.returns
returns c =
    let is : LongIs c.args.set.now c.args.p c.in_ok-device.device = c.in_ok-device.ensures in
    let behind : Placed kind.Text c.args.set.now c.in_ok-device.device.end c.in_ok-link.link = c.in_ok-link.ensures in
    wish-is c.args.set.now c.args.p c.in_ok-device.device is (λ i. (c.type_inv.set i).fits) c.in_ok-link.link behind _ refl refl refl
