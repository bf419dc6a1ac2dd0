-- `listing_record::put_owner` meets its contract.
use mathlib.Core.Path.{ap}
use Rattle.lists.specs.Quoted.{bytes}
use Rattle.engine.specs.Listing.{set_line}
use Rattle.listing_lines.proofs.Laws.{appended_as}
use Rattle.listing_record.proofs.Laws.{names-within, owner-text}
use native.Mathlib.Omega.{arith}
use Rattle.listing_record.proofs.put_owner.Goals as goal

pub overflow_sub-end : goal.overflow_sub-end
overflow_sub-end c =
    let entry = c in
    let a = entry.args in
    let group = c.field in
    let (n, s, h) = entry.requires.held in
    let w = names-within n a.t.now a.layout s h in
    omega (arith, w.0, w.1, group.ensures.0)

pub overflow_sub-start : goal.overflow_sub-start
overflow_sub-start c =
    let entry = c in
    let a = entry.args in
    let group = c.field in
    let owner = c.field-2 in
    let (n, s, h) = entry.requires.held in
    let w = names-within n a.t.now a.layout s h in
    omega (arith, w.0, w.1, group.ensures.0, owner.ensures.0)

pub slice_bounds-put_set_line-count : goal.slice_bounds-put_set_line-count
slice_bounds-put_set_line-count c =
    let a = c.args in
    let group = c.field in
    let owner = c.field-2 in
    let (n, s, h) = c.requires.held in
    let w = names-within n a.t.now a.layout s h in
    omega (arith, w.0, w.1, group.ensures.0, owner.ensures.0)

pub slice_bounds-put_set_line-start : goal.slice_bounds-put_set_line-start
slice_bounds-put_set_line-start c =
    let a = c.args in
    let group = c.field in
    let owner = c.field-2 in
    let (n, s, h) = c.requires.held in
    let w = names-within n a.t.now a.layout s h in
    omega (arith, w.0, w.1, group.ensures.0, owner.ensures.0)

pub slice_bounds-put_set_line-end-2 : goal.slice_bounds-put_set_line-end-2
slice_bounds-put_set_line-end-2 c =
    let a = c.args in
    let group = c.field in
    let owner = c.field-2 in
    let (n, s, h) = c.requires.held in
    let w = names-within n a.t.now a.layout s h in
    omega (arith, w.0, w.1, group.ensures.0, owner.ensures.0)

pub returns : goal.returns
unfolding bytes
returns c =
    let a = c.args in
    let group = c.field in
    let owner = c.field-2 in
    let put = c.put_set_line in
    λ n s h.
    appended_as _ (set_line (bytes "owner") s.owner) a.out.now a.used put.result put.new.out
    (ap (set_line (bytes "owner")) (owner-text n a.t.now a.layout s h group.result group.ensures.0 owner.result owner.ensures.0)) put.ensures
