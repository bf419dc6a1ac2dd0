-- `set_rows::lent_in` meets its contract.
use mathlib.Core.Path.{refl}
use Rattle.set_rows.proofs.Longs.{device_from, outcome_from, lent_is}
use Rattle.set_rows.proofs.lent_in.Goals as goal

pub long_in-device-requires : goal.long_in-device-requires
long_in-device-requires c =
    let entry = c.args in
    let pre = c.requires in
    device_from entry.set.now entry.p (pre)

pub long_in-outcome-requires : goal.long_in-outcome-requires
long_in-outcome-requires c =
    let entry = c.args in
    let long-in = c.long_in-device in
    let pre = c.requires in
    outcome_from entry.set.now entry.p long-in.result long-in.ensures (pre)

pub returns : goal.returns
returns c =
    let entry = c.args in
    let long-in = c.long_in-device in
    let long-in2 = c.long_in-outcome in
    lent_is entry.set.now entry.p long-in.result long-in.ensures _ refl long-in2.ensures
