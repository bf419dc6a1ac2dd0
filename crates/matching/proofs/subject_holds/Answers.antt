-- `matching::subject_holds` meets its contract.
use Prim.Native.Nat.{ℕ}
use mathlib.Core.List.{List}
use mathlib.Core.Path.{ap, ◌∙◌}
use Rattle.matching.proofs.Begin.{judging_stands}
use Rattle.engine.specs.Match.{judged}
use Rattle.keys.specs.Table.{operator_of}
use Rattle.pattern.specs.Pattern.{matches}
use Rattle.matching.proofs.subject_holds.Goals as goal

pub action_holds-requires : goal.action_holds-requires
action_holds-requires c =
    ((c.requires.0.device, c.requires.0.decoded), c.requires.1)

pub part_holds-requires : goal.part_holds-requires
part_holds-requires c =
    let args = c.args in
    (judging_stands args.dev.now args.at args.t.now args.layout c.requires.0, c.requires.1)

pub property-requires : goal.property-requires
property-requires c = let judging = c.requires.0 in (judging.n, judging.state, judging.held)

pub list_holds-requires : goal.list_holds-requires
list_holds-requires c =
    ((c.requires.0.n, c.requires.0.state, c.requires.0.held), c.requires.1)

pub returns-in-Some-Action : goal.returns-in-Some-Action
returns-in-Some-Action c = λ x. let is = rw c.in-Some-Action.is at c.in-Some-Action.field-0-is in rw (c.in-Some-Action.is, is) (c.action_holds.ensures x.device x.decoded)

pub returns-in-Some-Device : goal.returns-in-Some-Device
returns-in-Some-Device c = λ x. let is = rw c.in-Some-Device.is at c.in-Some-Device.field-0-is in rw (c.in-Some-Device.is, is) (c.part_holds.ensures x.member x.lies)

pub returns-in-Some-Property : goal.returns-in-Some-Property
returns-in-Some-Property c =
    let a = c.args in
    λ x. let is = rw c.in-Some-Property.is at c.in-Some-Property.field-0-is in rw (c.in-Some-Property.is, is) (c.value_holds.ensures ∙ ap (λ (v : List ℕ). judged (operator_of a.operator) (matches a.pattern.now v)) (c.property.ensures x.n x.state x.held))

pub returns-in-Some-List : goal.returns-in-Some-List
returns-in-Some-List c = λ x. let is = rw c.in-Some-List.is at c.in-Some-List.field-0-is in rw (c.in-Some-List.is, is) (c.list_holds.ensures x.n x.state x.held)
