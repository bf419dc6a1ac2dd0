-- `keys::slot` meets its contract.
use Rattle.keys.specs.Slots.{slot_of}
use Rattle.keys.proofs.slot.Goals as goal

pub returns : goal.returns
unfolding slot_of
returns c =
    let byte_at = c.byte_at-first in
    let byte-at2 = c.byte_at-second in
    rw (← byte_at.ensures, ← byte-at2.ensures, ← c.from.ensures, ← c.from-2.ensures)
