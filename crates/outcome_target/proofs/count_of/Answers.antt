-- `outcome_target::count_of` meets its contract.
use native.Mathlib.Omega.{arith}
use Rattle.outcome_target.proofs.count_of.Goals as goal

pub returns-in-Links : goal.returns-in-Links
returns-in-Links c = rw c.in-Links.is (c.field.ensures.0, omega (arith, c.field.ensures.1))

pub returns-in-Properties : goal.returns-in-Properties
returns-in-Properties c = rw c.in-Properties.is (c.field-in-Properties.ensures.0, omega (arith, c.field-in-Properties.ensures.1))

pub returns-in-Tags : goal.returns-in-Tags
returns-in-Tags c = rw c.in-Tags.is (c.field-in-Tags.ensures.0, omega (arith, c.field-in-Tags.ensures.1))

pub returns-in-Runs : goal.returns-in-Runs
returns-in-Runs c = rw c.in-Runs.is (c.field-in-Runs.ensures.0, omega (arith, c.field-in-Runs.ensures.1))
