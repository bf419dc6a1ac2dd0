-- `insertion::put_byte` meets its contract.
use mathlib.Core.Path.{refl}
use native.Mathlib.Omega.{arith}
use Rattle.splice.proofs.Laws.{set-stored}
use Rattle.insertion.proofs.put_byte.Goals as goal

pub returns : goal.returns
returns c = record { end = refl; room = omega arith; bytes = set-stored c.args.out.now c.args.used c.args.b (omega arith) }
