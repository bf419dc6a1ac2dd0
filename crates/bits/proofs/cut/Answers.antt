-- `bits::cut` meets its contract.
use Rattle.bits.proofs.cut.Goals as goal

pub returns : goal.returns
returns c = rw c.power.ensures.0
