-- `match_device::driver_holds` meets its contract.
use mathlib.Core.Path.{sym, ◌∙◌}
use lib.ListN.{length}
use borrow.Author.Tests.{eqb-true, eqb-false}
use Rattle.keys.specs.Table.{operator_of}
use Rattle.match_device.proofs.Absent.{no-driver, driver}
use Rattle.match_device.proofs.driver_holds.Goals as goal

pub returns-then-is_empty : goal.returns-then-is_empty
returns-then-is_empty c =
    let a = c.args in
    let none = eqb-true (length a.driver.now) 0 (sym c.is_empty.ensures ∙ c.if-is_empty.true) in
    c.judge.ensures ∙ no-driver (operator_of a.operator) a.pattern.now a.driver.now none

pub returns : goal.returns
returns c =
    let a = c.args in
    let some = eqb-false (length a.driver.now) 0 (sym c.is_empty.ensures ∙ c.if-is_empty.false) in
    c.value_holds.ensures ∙ driver (operator_of a.operator) a.pattern.now a.driver.now some
