-- `device_lookup::part_of` meets its contract.
use Prim.Native.Nat.{◌+◌, ◌-◌}
use mathlib.Core.Path.{sym, ap, subst, ◌∙◌}
use native.Mathlib.Omega.{arith}
use lib.ListN.{length, take, drop}
use Rattle.lists.proofs.Moves.{ap_at}
use Rattle.device_lookup.specs.Lookup.{Within, part_in}
use Rattle.device_lookup.proofs.part_of.Goals as goal

pub overflow_add-result : goal.overflow_add-result
overflow_add-result c =
    let entry = c.args in
    let pre = c.requires in
    let w = subst (λ x. Within x (length entry.rec.now)) c.in-Some.is pre in omega arith

pub slice_bounds-result-end : goal.slice_bounds-result-end
slice_bounds-result-end c =
    let entry = c.args in
    let pre = c.requires in
    let w = subst (λ x. Within x (length entry.rec.now)) c.in-Some.is pre in omega arith
