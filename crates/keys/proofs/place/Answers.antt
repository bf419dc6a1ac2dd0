-- `keys::place` meets its contract.
use Rattle.keys.specs.Slots.{slot_of}
use Rattle.keys.proofs.Rows.{places, slot_below, place_below, place_is}
use Rattle.keys.proofs.place.Goals as goal

pub bounds-s : goal.bounds-s
bounds-s c = rw c.slot-s.ensures (slot_below c.args.name.now)

pub returns : goal.returns
unfolding places
returns c =
    let entry = c.args in
    rw (c.from.ensures, c.slot-s.ensures)
    (place_below (slot_of entry.name.now) (slot_below entry.name.now), place_is entry.name.now)
