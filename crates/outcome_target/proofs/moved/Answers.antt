-- `outcome_target::moved` meets its contract.
use native.Mathlib.Omega.{arith}
use Rattle.outcome_target.proofs.moved.Goals as goal

pub overflow_sub-result : goal.overflow_sub-result
overflow_sub-result c = let h = rw c.in-Links.is at c.requires.1 in omega arith

pub overflow_sub-result-in-Links : goal.overflow_sub-result-in-Links
overflow_sub-result-in-Links c = let h = rw c.in-Links.is at c.requires.1 in omega arith

pub overflow_sub-result-in-Links-2 : goal.overflow_sub-result-in-Links-2
overflow_sub-result-in-Links-2 c = let h = rw c.in-Links.is at c.requires.1 in omega arith

pub overflow_sub-result-in-Links-3 : goal.overflow_sub-result-in-Links-3
overflow_sub-result-in-Links-3 c = let h = rw c.in-Links.is at c.requires.1 in omega arith

pub overflow_sub-result-in-Properties : goal.overflow_sub-result-in-Properties
overflow_sub-result-in-Properties c = let h = rw c.in-Properties.is at c.requires.1 in omega arith

pub overflow_sub-result-in-Properties-2 : goal.overflow_sub-result-in-Properties-2
overflow_sub-result-in-Properties-2 c = let h = rw c.in-Properties.is at c.requires.1 in omega arith

pub overflow_sub-result-in-Properties-3 : goal.overflow_sub-result-in-Properties-3
overflow_sub-result-in-Properties-3 c = let h = rw c.in-Properties.is at c.requires.1 in omega arith

pub overflow_sub-result-in-Tags : goal.overflow_sub-result-in-Tags
overflow_sub-result-in-Tags c = let h = rw c.in-Tags.is at c.requires.1 in omega arith

pub overflow_sub-result-in-Tags-2 : goal.overflow_sub-result-in-Tags-2
overflow_sub-result-in-Tags-2 c = let h = rw c.in-Tags.is at c.requires.1 in omega arith

pub overflow_sub-result-in-Runs : goal.overflow_sub-result-in-Runs
overflow_sub-result-in-Runs c = let h = rw c.in-Runs.is at c.requires.1 in omega arith

pub returns-in-Links : goal.returns-in-Links
returns-in-Links c = rw c.in-Links.is

pub returns-in-Properties : goal.returns-in-Properties
returns-in-Properties c = rw c.in-Properties.is

pub returns-in-Tags : goal.returns-in-Tags
returns-in-Tags c = rw c.in-Tags.is

pub returns-in-Runs : goal.returns-in-Runs
returns-in-Runs c = rw c.in-Runs.is
