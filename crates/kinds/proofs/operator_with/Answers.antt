-- `kinds::operator_with` meets its contract.
use native.Mathlib.Omega.{arith}
use Rattle.kinds.specs.Numbers.{op_with}
use Rattle.kinds.proofs.Numbers.{op_last}
use mathlib.Core.Path.{sym}
use Rattle.kinds.proofs.operator_with.Goals as goal

pub returns-in-0 : goal.returns-in-0
unfolding op_with
returns-in-0 c = rw c.in-0.is

pub returns-in-1 : goal.returns-in-1
unfolding op_with
returns-in-1 c = rw c.in-1.is

pub returns-in-2 : goal.returns-in-2
unfolding op_with
returns-in-2 c = rw c.in-2.is

pub returns-in-3 : goal.returns-in-3
unfolding op_with
returns-in-3 c = rw c.in-3.is

pub returns-in-4 : goal.returns-in-4
unfolding op_with
returns-in-4 c = rw c.in-4.is

pub returns-in_default : goal.returns-in_default
returns-in_default c = sym (op_last c.args.n (omega arith))
