-- `match_device::part_holds` meets its contract.
use Prim.Native.Nat.{ℕ}
use mathlib.Core.List.{List}
use mathlib.Core.Path.{ap, ◌∙◌}
use Rattle.engine.specs.Match.{judged}
use Rattle.keys.specs.Table.{operator_of}
use Rattle.pattern.specs.Pattern.{matches}
use Rattle.match_device.specs.Parts.{driver_holds}
use Rattle.match_device.proofs.part_holds.Goals as goal

pub returns-in-Path : goal.returns-in-Path
returns-in-Path c = λ m h.
    let args = c.args in
    rw c.in-Path.is
    (c.value_holds.ensures ∙ ap (λ (x : List ℕ). judged (operator_of args.operator) (matches args.pattern.now x)) (c.path_at.ensures m h))

pub returns-in-Name : goal.returns-in-Name
returns-in-Name c = λ m h.
    let args = c.args in
    rw c.in-Name.is
    (c.value_holds-in-Name.ensures ∙ ap (λ (x : List ℕ). judged (operator_of args.operator) (matches args.pattern.now x)) (c.name_at.ensures m h))

pub returns-in-Subsystem : goal.returns-in-Subsystem
returns-in-Subsystem c = λ m h.
    let args = c.args in
    rw c.in-Subsystem.is
    (c.value_holds-in-Subsystem.ensures ∙ ap (λ (x : List ℕ). judged (operator_of args.operator) (matches args.pattern.now x)) (c.subsystem_at.ensures m h))

pub returns-in-Driver : goal.returns-in-Driver
returns-in-Driver c = λ m h.
    let args = c.args in
    rw c.in-Driver.is
    (c.driver_holds.ensures ∙ ap (λ (x : List ℕ). driver_holds (operator_of args.operator) args.pattern.now x) (c.driver_at.ensures m h))

pub returns-in-Attribute : goal.returns-in-Attribute
returns-in-Attribute c = λ m h. rw c.in-Attribute.is (c.attribute_holds.ensures m h)
