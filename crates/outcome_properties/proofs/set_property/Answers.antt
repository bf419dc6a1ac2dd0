-- `outcome_properties::set_property` meets its contract.
use mathlib.Core.Path.{refl, sym, ◌∙◌}
use mathlib.Core.List.{[], ◌∷◌, ◌++◌}
use lib.ListN.{length}
use Prim.Native.Nat.{◌<◌}
use Rattle.row_edits.proofs.Rows.{property-size}
use Rattle.outcome.specs.Edits.{property}
use Rattle.outcome_target.proofs.Rows.{properties-row, row_count}
use Rattle.outcome_readers.proofs.Rows.{properties_read}
use Rattle.outcome_properties.proofs.Properties.{set_last, set_full, property-among, property_room, property_grown, there_fits, there_set}
use native.Mathlib.Omega.{arith}
use Rattle.outcome_properties.proofs.set_property.Goals as goal

pub find-requires : goal.find-requires
find-requires c =
    let entry = c in
    let x = entry.args in
    let a = x in
    let k = c.count_of-n in
    let h = properties_read (entry.requires.0.0) a.t.now a.layout (entry.requires.0.1) (entry.requires.0.2) a.layout.properties k.result refl k.ensures.0 in (h.within, h.row)

pub replace_value-requires : goal.replace_value-requires
replace_value-requires c =
    let entry = c in
    let x = entry.args in
    let a = x in
    let k = c.count_of-n in
    let f = c.in-Ok.found in
    let h = there_fits entry.requires.0.0 a.t.now a.layout entry.requires.0.1 entry.requires.0.2 a.key.now a.layout.properties
    k.result refl k.ensures.0 a.value.now entry.requires.1 f (sym c.find.ensures.0 ∙ c.in-Ok.is) in (h.rising, h.within, h.end, h.fits, h.small)

pub append_property-requires : goal.append_property-requires
append_property-requires c =
    let entry = c in
    let x = entry.args in
    let a = x in
    let k = c.count_of-n in
    let m = property-among entry.requires.0.0 a.t.now a.layout entry.requires.0.1 entry.requires.0.2 a.key.now a.layout.properties
    k.result refl k.ensures.0 c.in-Err.field-0 (sym c.find.ensures.0 ∙ c.in-Err.is) in
    let h = property_room entry.requires.0.0 a.t.now a.layout entry.requires.0.1 entry.requires.0.2 a.key.now a.layout.properties
    k.result refl k.ensures.0 a.value.now entry.requires.1 m (omega (
      arith,
      k.ensures.0,
      row_count properties-row entry.requires.0.0 a.t.now
          a.layout entry.requires.0.1 entry.requires.0.2,
    )) in
    let z = property-size a.key.now a.value.now in (h.rising, omega (arith, z, h.fits), omega arith, omega (arith, z, h.most))

pub returns-in-Ok : goal.returns-in-Ok
returns-in-Ok c =
    let entry = c in
    let x = entry.args in
    let a = x in
    let k = c.count_of-n in
    let f = c.in-Ok.found in λ n s w. there_set n a.t.now a.layout s w a.key.now a.layout.properties
    k.result refl k.ensures.0 a.value.now entry.requires.1 f
    (sym c.find.ensures.0 ∙ c.in-Ok.is)
    c.replace_value.new.t c.replace_value.result c.replace_value.auto.t c.replace_value.ensures

pub returns-then-n-lt32 : goal.returns-then-n-lt32
returns-then-n-lt32 c =
    let entry = c in
    let x = entry.args in
    let a = x in
    let k = c.count_of-n in λ n s w. let m = property-among n a.t.now
    a.layout s w a.key.now a.layout.properties k.result refl k.ensures.0 c.in-Err.field-0
    (sym c.find.ensures.0 ∙ c.in-Err.is) in
    let i : length s.properties < 32 = omega (
      arith,
      k.ensures.0,
      row_count properties-row n a.t.now
          a.layout s w,
    ) in (
      s.properties ++ (property a.key.now a.value.now ∷ []),
      set_last a.key.now a.value.now
          s.properties m i,
      property_grown n a.t.now a.layout s w a.key.now a.layout.properties k.result refl k.ensures.0 a.value.now
          entry.requires.1 c.append_property.new.t c.append_property.result
          c.append_property.auto.t m i c.append_property.ensures,
    )

pub returns-else-n-lt32 : goal.returns-else-n-lt32
returns-else-n-lt32 c =
    let x = c.args in
    let a = x in
    let k = c.count_of-n in λ n s w. set_full a.key.now a.value.now s.properties
    (property-among n a.t.now a.layout s w a.key.now a.layout.properties k.result refl k.ensures.0 c.in-Err.field-0
    (sym c.find.ensures.0 ∙ c.in-Err.is)) (omega (arith, k.ensures.0, row_count properties-row n a.t.now a.layout s w))
