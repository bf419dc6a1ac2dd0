-- `rule_writing::put_first` meets its contract.
use mathlib.Core.Path.{ap}
use native.Mathlib.Omega.{arith}
use lib.ListN.{length}
use Rattle.rule_writing.proofs.Parts.{first_of}
use Rattle.rule_writing.proofs.Writes.{placed_as}
use Rattle.rule_writing.proofs.put_first.Goals as goal

pub put_text-requires : goal.put_text-requires
put_text-requires c =
    let a = c.args in
    omega (arith, c.requires.1, ap length (first_of a.name a.len))

pub returns : goal.returns
returns c =
    let a = c.args in
    placed_as (first_of a.name a.len) c.put_text.ensures
