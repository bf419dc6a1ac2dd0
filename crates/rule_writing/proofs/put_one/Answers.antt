-- `rule_writing::put_one` meets its contract.
use mathlib.Core.Path.{refl}
use native.Mathlib.Omega.{arith}
use Rattle.splice.proofs.Laws.{set-stored}
use Rattle.rule_writing.proofs.put_one.Goals as goal

pub returns : goal.returns
returns c = record { end = refl; room = c.requires; bytes = set-stored c.args.out.now c.args.used c.args.b (omega (arith, c.requires)) }
