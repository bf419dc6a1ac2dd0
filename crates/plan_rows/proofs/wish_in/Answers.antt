-- `plan_rows::wish_in` meets its contract.
use mathlib.Core.Path.{refl}
use Rattle.plan_rows.proofs.Wishes.{device_from, link_fits, wish-is}
use Rattle.plan_rows.proofs.wish_in.Goals as goal

pub long_in-device-requires : goal.long_in-device-requires
long_in-device-requires c =
    let entry = c.args in
    let pre = c.requires in
    device_from entry.set.now entry.p pre

pub parts_at-link-requires : goal.parts_at-link-requires
parts_at-link-requires c =
    let long-in = c.long_in-device in
    let entry = c.args in
    let pre = c.requires in
    (long-in.ensures.inside.within, link_fits entry.set.now entry.p long-in.result long-in.ensures pre)

pub returns : goal.returns
returns c =
    let entry = c.args in
    let long-in = c.long_in-device in
    let shared-slice-known = c.type_inv.set in
    let parts_at = c.parts_at-link in
    wish-is entry.set.now entry.p long-in.result long-in.ensures (λ i. (shared-slice-known i).fits) parts_at.result parts_at.ensures _ refl refl refl
