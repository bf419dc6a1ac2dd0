-- `rule_writing::put_operator` meets its contract.
use mathlib.Core.Path.{ap}
use native.Mathlib.Omega.{arith}
use lib.ListN.{length}
use Rattle.rule_writing.proofs.Parts.{op_is}
use Rattle.rule_writing.proofs.Writes.{placed_as}
use Rattle.keys.specs.declared.Operator.TheVariants as op
use Rattle.rule_writing.proofs.put_operator.Goals as goal

pub put_two-requires : goal.put_two-requires
put_two-requires c =
    let a = c.args in
    omega (arith, c.requires, ap length (op_is a.operator op.Equal c.in-Equal.is))

pub put_two-requires-in-Unequal : goal.put_two-requires-in-Unequal
put_two-requires-in-Unequal c =
    let a = c.args in
    omega (arith, c.requires, ap length (op_is a.operator op.Unequal c.in-Unequal.is))

pub put_one-requires : goal.put_one-requires
put_one-requires c =
    let a = c.args in
    omega (arith, c.requires, ap length (op_is a.operator op.Assign c.in-Assign.is))

pub put_two-requires-in-Add : goal.put_two-requires-in-Add
put_two-requires-in-Add c =
    let a = c.args in
    omega (arith, c.requires, ap length (op_is a.operator op.Add c.in-Add.is))

pub put_two-requires-in-Remove : goal.put_two-requires-in-Remove
put_two-requires-in-Remove c =
    let a = c.args in
    omega (arith, c.requires, ap length (op_is a.operator op.Remove c.in-Remove.is))

pub put_two-requires-in-Final : goal.put_two-requires-in-Final
put_two-requires-in-Final c =
    let a = c.args in
    omega (arith, c.requires, ap length (op_is a.operator op.Final c.in-Final.is))

pub returns-in-Equal : goal.returns-in-Equal
returns-in-Equal c =
    let a = c.args in
    placed_as (op_is a.operator op.Equal c.in-Equal.is) c.put_two.ensures

pub returns-in-Unequal : goal.returns-in-Unequal
returns-in-Unequal c =
    let a = c.args in
    placed_as (op_is a.operator op.Unequal c.in-Unequal.is) c.put_two-in-Unequal.ensures

pub returns-in-Assign : goal.returns-in-Assign
returns-in-Assign c =
    let a = c.args in
    placed_as (op_is a.operator op.Assign c.in-Assign.is) c.put_one.ensures

pub returns-in-Add : goal.returns-in-Add
returns-in-Add c =
    let a = c.args in
    placed_as (op_is a.operator op.Add c.in-Add.is) c.put_two-in-Add.ensures

pub returns-in-Remove : goal.returns-in-Remove
returns-in-Remove c =
    let a = c.args in
    placed_as (op_is a.operator op.Remove c.in-Remove.is) c.put_two-in-Remove.ensures

pub returns-in-Final : goal.returns-in-Final
returns-in-Final c =
    let a = c.args in
    placed_as (op_is a.operator op.Final c.in-Final.is) c.put_two-in-Final.ensures
