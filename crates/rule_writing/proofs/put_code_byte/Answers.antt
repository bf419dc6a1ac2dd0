-- `rule_writing::put_code_byte` meets its contract.
use mathlib.Core.Path.{ap}
use native.Mathlib.Omega.{arith}
use lib.ListN.{length}
use Rattle.rule_writing.proofs.Parts.{code-line, code-slash, code_mark, code-raw}
use Rattle.rule_writing.proofs.Writes.{placed_as}
use Rattle.rule_writing.proofs.put_code_byte.Goals as goal

pub put_two-requires : goal.put_two-requires
put_two-requires c =
    let a = c.args in
    omega (arith, c.requires, ap length (code-line a.b c.if-b-eq10.true))

pub returns-then-b-eq10 : goal.returns-then-b-eq10
returns-then-b-eq10 c =
    let a = c.args in
    placed_as (code-line a.b c.if-b-eq10.true) c.put_two.ensures

pub put_two-requires-then-b-eq92 : goal.put_two-requires-then-b-eq92
put_two-requires-then-b-eq92 c =
    let a = c.args in
    omega (arith, c.requires, ap length (code-slash a.b c.if-b-eq10.false c.if-b-eq92.true))

pub returns-then-b-eq92 : goal.returns-then-b-eq92
returns-then-b-eq92 c =
    let a = c.args in
    placed_as (code-slash a.b c.if-b-eq10.false c.if-b-eq92.true) c.put_two-then-b-eq92.ensures

pub put_two-requires-then-b-eq34 : goal.put_two-requires-then-b-eq34
put_two-requires-then-b-eq34 c =
    let a = c.args in
    omega (arith, c.requires, ap length (code_mark a.b c.if-b-eq10.false c.if-b-eq92.false c.if-b-eq34.true))

pub returns-then-b-eq34 : goal.returns-then-b-eq34
returns-then-b-eq34 c =
    let a = c.args in
    placed_as (code_mark a.b c.if-b-eq10.false c.if-b-eq92.false c.if-b-eq34.true) c.put_two-then-b-eq34.ensures

pub put_one-requires : goal.put_one-requires
put_one-requires c =
    let a = c.args in
    omega (arith, c.requires, ap length (code-raw a.b c.if-b-eq10.false c.if-b-eq92.false c.if-b-eq34.false))

pub returns : goal.returns
returns c =
    let a = c.args in
    placed_as (code-raw a.b c.if-b-eq10.false c.if-b-eq92.false c.if-b-eq34.false) c.put_one.ensures
