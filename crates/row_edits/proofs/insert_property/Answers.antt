-- `row_edits::insert_property` meets its contract.
use mathlib.Core.Path.{refl, ap, ◌∙◌}
use mathlib.Core.List.{List, ◌++◌}
use Prim.Native.Nat.{ℕ}
use lib.ListN.{length}
use Rattle.bits.proofs.Fields.{length-packed}
use Rattle.splice.specs.Moves.{inserted}
use Rattle.entries.specs.Entry.{prop_fields}
use Rattle.row_edits.proofs.Writes.{two_inserted}
use Rattle.row_edits.proofs.insert_property.Goals as goal

pub returns : goal.returns
returns c =
    let x = c.args in
    let a = x in
    let pre = c.requires in
    let write-property-head = c.write_property_head in
    let open-gap = c.open_gap in
    let store = c.store in
    let store2 = c.store-2 in
    two_inserted a.t.now a.at a.used pre.0 write-property-head.new.head a.key.now a.value.now open-gap.new.t store.new.t
    store2.new.t (ap length write-property-head.ensures ∙ length-packed (prop_fields (length a.key.now) (length a.value.now)) 2 refl) pre.1
    open-gap.ensures store.ensures store2.ensures ∙ ap (λ (y : List ℕ). inserted a.t.now a.at a.used (y ++ (a.key.now ++ a.value.now))) write-property-head.ensures
