-- `assign_links::change_links` meets its contract.
use Rattle.std.specs.Prelude.{Ok, Err}
use mathlib.Core.Path.{refl, subst}
use native.Mathlib.Omega.{arith}
use borrow.Author.Rules.{rules}
use Rattle.std.proofs.lemmas.Result.{err_from_is_err_and}
use Rattle.link_names.specs.Names.{Named}
use Rattle.assign_links.proofs.Links.{part-clean, links_begin, links-on, links-refused, links_end}
use Rattle.keys.specs.Table.{operator_of}
use Rattle.assign_links.proofs.change_links.Goals as goal

pub loop-name-init : goal.loop-name-init
loop-name-init c =
    let a = c.args in
    links_begin (operator_of a.operator) a.text.now a.t.now a.layout

pub name_from-requires : goal.name_from-requires
name_from-requires c = c.loop-name.invariant.within

pub slice_bounds-change_link-count : goal.slice_bounds-change_link-count
slice_bounds-change_link-count c =
    let w = subst (Named c.args.text.now c.loop-name.at) c.in-Some.is c.name_from.ensures in
    omega (arith, w.2)

pub slice_bounds-change_link-start : goal.slice_bounds-change_link-start
slice_bounds-change_link-start c =
    let w = subst (Named c.args.text.now c.loop-name.at) c.in-Some.is c.name_from.ensures in
    omega (arith, w.2)

pub slice_bounds-change_link-end : goal.slice_bounds-change_link-end
slice_bounds-change_link-end c =
    let w = subst (Named c.args.text.now c.loop-name.at) c.in-Some.is c.name_from.ensures in
    w.3

pub change_link-requires : goal.change_link-requires
change_link-requires c =
    let name = c.in-Some.name in
    let (n, s₀, h) = c.requires.0 in
    let (s, z, f) = c.loop-name.invariant.going n s₀ h in
    ((n, s, z), part-clean c.args.text.now name.start name.end c.requires.1)

pub loop-name-smaller : goal.loop-name-smaller
loop-name-smaller c =
    let w = subst (Named c.args.text.now c.loop-name.at) c.in-Some.is c.name_from.ensures in
    omega (arith, w.1, w.2, w.3)

pub loop-name-preserved : goal.loop-name-preserved
loop-name-preserved c =
    let a = c.args in
    let l = c.loop-name in
    links-on (operator_of a.operator) a.text.now a.t.now a.layout l.t l.left l.at l.invariant
    c.name_from.result c.name_from.ensures c.in-Some.name c.in-Some.is c.change_link.new.t (Ok c.in_ok-left.left)
    (search rules) c.in_ok-left.ensures c.in_ok-left.left refl

pub returns-in_err-left : goal.returns-in_err-left
returns-in_err-left c =
    let a = c.args in
    let l = c.loop-name in
    let p = err_from_is_err_and c.from_residual.result c.from_residual.ensures.1 in
    rw (p.1, p.2)
    (links-refused (operator_of a.operator) a.text.now a.t.now a.layout l.t l.left l.at l.invariant
    c.name_from.result c.name_from.ensures c.in-Some.name c.in-Some.is c.change_link.new.t (Err c.in_err-left.field-0.0)
    (search rules) c.in_err-left.ensures c.in_err-left.field-0.0 refl)

pub shape_of-t : goal.shape_of-t
shape_of-t c = c.loop-name.invariant.room

pub returns : goal.returns
returns c =
    let a = c.args in
    let l = c.loop-name in
    links_end (operator_of a.operator) a.text.now a.t.now a.layout l.t l.left l.at l.invariant c.name_from.result c.name_from.ensures c.in_default.is
