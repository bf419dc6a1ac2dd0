-- `reader::fault_number` meets its contract.
use Rattle.reader.proofs.Numbers.{number_small}
use Rattle.refusals.specs.Refusals.{refusal_of}
use native.Mathlib.Omega.{arith}
use Rattle.reader.proofs.fault_number.Goals as goal

pub returns : goal.returns
returns c =
    let number = c.number in
    (number.ensures, omega (arith, number.ensures, (number_small (refusal_of c.args.f)).1))
