-- `assign_env::set_clean` meets its contract.
use mathlib.Core.Logic.{inl, inr}
use Rattle.assign_env.proofs.Env.{prop_ok, front-size, copy, copy-size, copy_room, copy-ok}
use Rattle.assign_env.proofs.set_clean.Goals as goal

pub slice_bounds-clean-end : goal.slice_bounds-clean-end
slice_bounds-clean-end c =
    let entry = c.args in
    let store = c.store in
    front-size entry.value.now _ store.new.t store.new.t store.ensures

pub slice_bounds-out-end-in-Replaced : goal.slice_bounds-out-end-in-Replaced
slice_bounds-out-end-in-Replaced c =
    let entry = c.args in
    let store = c.store in
    let clean = c.clean in
    copy_room entry.value.now _ store.new.t clean.new.x store.ensures clean.ensures

pub slice_bounds-set_property-end : goal.slice_bounds-set_property-end
slice_bounds-set_property-end c =
    let entry = c.args in
    let store = c.store in
    let clean = c.clean in
    copy-size entry.value.now _ store.new.t clean.new.x store.ensures clean.ensures

pub set_property-requires : goal.set_property-requires
set_property-requires c =
    let pre = c.requires in
    let entry = c.args in
    let store = c.store in
    let clean = c.clean in (
      pre.0,
      copy-ok entry.value.now _ store.new.t clean.new.x store.ensures clean.ensures entry.key.now pre.1
          pre.3 pre.2,
    )

pub set_property-requires-in-Unset : goal.set_property-requires-in-Unset
set_property-requires-in-Unset c =
    let pre = c.requires in
    let entry = c.args in
    (pre.0, prop_ok entry.key.now entry.value.now pre.1 pre.3 pre.2)

pub returns-in-Replaced : goal.returns-in-Replaced
returns-in-Replaced c =
    let entry = c.args in
    let enum_told = c.in-Replaced in
    let store = c.store in
    let clean = c.clean in
    let set-property = c.set_property in
    rw (enum_told.is, ← copy entry.value.now _ store.new.t clean.new.x store.ensures clean.ensures)
    set-property.ensures

pub returns-in-Unset : goal.returns-in-Unset
returns-in-Unset c = elim c.in-Unset.is [ inl e ↦ rw e c.set_property-in-Unset.ensures | inr e ↦ rw e c.set_property-in-Unset.ensures ]
