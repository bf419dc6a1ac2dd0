-- `bits::power` meets its contract: a shift of 1 by at most 32 loses nothing.
use lib.Pow.{pow_pos}
use Rattle.bits.proofs.Windows.{one_shl}
use Rattle.bits.proofs.power.Goals as goal

pub returns : goal.returns
returns c = (one_shl c.args.n c.requires, rw (one_shl c.args.n c.requires) (pow_pos c.args.n))
