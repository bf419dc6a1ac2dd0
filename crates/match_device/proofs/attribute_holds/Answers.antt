-- `match_device::attribute_holds` meets its contract.
use Prim.Native.Nat.{ℕ}
use mathlib.Core.List.{List}
use mathlib.Core.Path.{ap, ◌∙◌}
use native.Mathlib.Omega.{arith}
use lib.ListN.{length}
use Rattle.std.specs.Prelude.{Some}
use Rattle.lists.proofs.Moves.{sized-part}
use Rattle.pattern.specs.Pattern.{matches}
use Rattle.engine.specs.Match.{judged, seen_by}
use Rattle.device.specs.Device.{attr_of}
use Rattle.device_lookup.specs.Lookup.{Within}
use Rattle.keys.specs.Table.{operator_of}
use Rattle.match_device.proofs.Absent.{present, absent}
use Rattle.match_device.proofs.attribute_holds.Goals as goal

pub overflow_add-found : goal.overflow_add-found
overflow_add-found c =
    let w : Within (Some c.in-Some.found) (length c.args.dev.now) = rw c.in-Some.is at c.find_attribute_at.ensures.1 in
    omega arith

pub slice_bounds-attribute_holds-end : goal.slice_bounds-attribute_holds-end
slice_bounds-attribute_holds-end c =
    let w : Within (Some c.in-Some.found) (length c.args.dev.now) = rw c.in-Some.is at c.find_attribute_at.ensures.1 in
    omega arith

pub returns-in-Some : goal.returns-in-Some
returns-in-Some c = λ m h.
    let a = c.args in
    let find = c.find_attribute_at in
    let found = c.in-Some.found in
    let op = operator_of a.operator in
    let value = a.pattern.now in
    c.attribute_holds.ensures
    ∙ ap (λ (x : List ℕ). judged op (matches value (seen_by value x))) (sized-part a.dev.now found.start found.len)
    ∙ present op value a.dev.now find.result (attr_of a.argument.now m) (find.ensures.0 m h) found c.in-Some.is

pub returns-in-None : goal.returns-in-None
returns-in-None c = λ m h.
    let a = c.args in
    let find = c.find_attribute_at in
    c.judge.ensures
    ∙ absent (operator_of a.operator) a.pattern.now a.dev.now find.result (attr_of a.argument.now m) (find.ensures.0 m h) c.in-None.is
