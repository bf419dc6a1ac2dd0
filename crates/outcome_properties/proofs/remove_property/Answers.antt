-- `outcome_properties::remove_property` meets its contract.
use mathlib.Core.Path.{refl, sym, ap, ◌∙◌, subst}
use lib.ListN.{length}
use Rattle.rows.proofs.Search.{property-written}
use Rattle.std.specs.Prelude.{Ok}
use Rattle.rows.specs.Row.{Within}
use Rattle.outcome.specs.Change.{with_properties}
use Rattle.outcome_target.specs.Held.{Held}
use Rattle.outcome_target.proofs.Rows.{properties-row}
use Rattle.outcome_readers.proofs.Rows.{properties_read}
use Rattle.outcome_lists.proofs.Found.{found-cuts, found-more, found-held, missing_kept}
use Rattle.outcome_properties.proofs.Properties.{property_less}
use native.Mathlib.Omega.{arith}
use Rattle.outcome_properties.proofs.remove_property.Goals as goal

pub find-requires : goal.find-requires
find-requires c =
    let a = c.args in
    let k = c.count_of-n in
    let h = properties_read (c.requires.0) a.t.now a.layout (c.requires.1) (c.requires.2) a.layout.properties k.result refl k.ensures.0 in (h.within, h.row)

pub overflow_add-found : goal.overflow_add-found
overflow_add-found c =
    let x = c.args in
    let u = c.find.ensures.1 in
    let q : Within (Ok c.in-Ok.found) (length x.t.now) = rw c.in-Ok.is at u in omega arith

pub overflow_sub-found : goal.overflow_sub-found
overflow_sub-found c =
    let pre = c.requires in
    let entry = c.args in
    let held = pre.2 in
    let count_of = c.count_of-n in
    let p = c.in-Ok in
    let found = sym c.find.ensures.0 ∙ p.is in
    let h = found-cuts properties-row property-written pre.0 entry.t.now entry.layout pre.1 held held.good.properties.each held.good.properties.apart
    entry.key.now entry.layout.properties count_of.result refl count_of.ensures.0 p.found found in
    omega (arith, h.over)

pub overflow_sub-n : goal.overflow_sub-n
overflow_sub-n c =
    let pre = c.requires in
    let entry = c.args in
    let held = pre.2 in
    let count_of = c.count_of-n in
    let p = c.in-Ok in
    let found = sym c.find.ensures.0 ∙ p.is in
    let h = found-more properties-row property-written pre.0 entry.t.now entry.layout pre.1 held held.good.properties.each held.good.properties.apart
    entry.key.now entry.layout.properties count_of.result refl count_of.ensures.0 p.found found in
    omega (arith, h)

pub cut-requires : goal.cut-requires
cut-requires c =
    let pre = c.requires in
    let entry = c.args in
    let held = pre.2 in
    let count_of = c.count_of-n in
    let p = c.in-Ok in
    let found = sym c.find.ensures.0 ∙ p.is in
    let h = found-cuts properties-row property-written pre.0 entry.t.now entry.layout pre.1 held held.good.properties.each held.good.properties.apart
    entry.key.now entry.layout.properties count_of.result refl count_of.ensures.0 p.found found in
    (h.rising, h.within, h.end, h.most)

pub returns-in-Ok : goal.returns-in-Ok
returns-in-Ok c =
    let entry = c.args in
    let count_of = c.count_of-n in
    let p = c.in-Ok in
    let found = sym c.find.ensures.0 ∙ p.is in
    let cut = c.cut in
    λ n s w.
    let less = property_less n entry.t.now entry.layout s w entry.key.now entry.layout.properties count_of.result refl count_of.ensures.0 in
    found-held properties-row property-written n entry.t.now entry.layout s w w.good.properties.each w.good.properties.apart
    entry.key.now entry.layout.properties count_of.result refl count_of.ensures.0 p.found found
    cut.new.t cut.result cut.auto.t cut.ensures less

pub returns-in-Err : goal.returns-in-Err
returns-in-Err c =
    let entry = c.args in
    let count_of = c.count_of-n in
    let told = c.in-Err in
    let missing = sym c.find.ensures.0 ∙ told.is in
    λ n s w.
    let kept = missing_kept properties-row property-written n entry.t.now entry.layout s w w.good.properties.each w.good.properties.apart
    entry.key.now entry.layout.properties count_of.result refl count_of.ensures.0 told.field-0 missing in
    subst (Held n entry.t.now entry.layout) (ap (with_properties s) kept) w
