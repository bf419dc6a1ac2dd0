-- `outcome_fields::set_group` meets its contract.
use mathlib.Core.Path.{◌∙◌}
use native.Mathlib.Omega.{arith}
use Rattle.outcome_fields.proofs.Names.{names-before, group_fit, group-set}
use Rattle.outcome_fields.proofs.set_group.Goals as goal

pub overflow_sub-layout : goal.overflow_sub-layout
overflow_sub-layout c =
    let entry = c in
    let a = entry.args in
    let pre = entry.requires in
    let old = c.field-old in
    omega (arith, names-before pre.0.0 a.t.now a.layout pre.0.1 pre.0.2, old.ensures.0)

pub replace-requires : goal.replace-requires
replace-requires c =
    let entry = c in
    let a = entry.args in
    let pre = entry.requires in
    let old = c.field-old in
    let fit = group_fit pre.0.0 a.t.now a.layout pre.0.1 pre.0.2 a.x.now pre.1 old.result old.ensures.0 in
    (fit.within, fit.end, fit.fits)

pub all_moved-requires : goal.all_moved-requires
all_moved-requires c =
    let entry = c in
    let a = entry.args in
    let pre = entry.requires in
    let old = c.field-old in
    let fit = group_fit pre.0.0 a.t.now a.layout pre.0.1 pre.0.2 a.x.now pre.1 old.result old.ensures.0 in
    (fit.rising, fit.before, fit.small)

pub returns : goal.returns
returns c =
    let entry = c in
    let a = entry.args in
    let pre = entry.requires in
    let old = c.field-old in
    let bytes = c.slice_known-2-1.given in
    let replace = c.replace in
    let put-field = c.put_field in
    let all_moved = c.all_moved in
    λ n s w. group-set n a.t.now a.layout s w a.x.now pre.1 old.result replace.new.t put-field.new.t all_moved.result old.ensures.0
    replace.ensures (λ i. (bytes i).fits) put-field.ensures (put-field.auto.t ∙ replace.auto.t) all_moved.ensures
