-- `rule_writing::put_plain_byte` meets its contract.
use mathlib.Core.Path.{ap}
use native.Mathlib.Omega.{arith}
use lib.ListN.{length}
use Rattle.rule_writing.proofs.Parts.{plain_mark, plain-raw}
use Rattle.rule_writing.proofs.Writes.{placed_as}
use Rattle.rule_writing.proofs.put_plain_byte.Goals as goal

pub put_two-requires : goal.put_two-requires
put_two-requires c =
    let a = c.args in
    omega (arith, c.requires, ap length (plain_mark a.b c.if-b-eq34.true))

pub returns-then-b-eq34 : goal.returns-then-b-eq34
returns-then-b-eq34 c =
    let a = c.args in
    placed_as (plain_mark a.b c.if-b-eq34.true) c.put_two.ensures

pub put_one-requires : goal.put_one-requires
put_one-requires c =
    let a = c.args in
    omega (arith, c.requires, ap length (plain-raw a.b c.if-b-eq34.false))

pub returns : goal.returns
returns c =
    let a = c.args in
    placed_as (plain-raw a.b c.if-b-eq34.false) c.put_one.ensures
