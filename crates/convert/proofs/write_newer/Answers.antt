-- `convert::write_newer` meets its contract.
use mathlib.Core.Path.{refl, ap, ◌∙◌}
use native.Mathlib.Omega.{arith}
use lib.ListN.{length, get_or, drop, length-drop, length-set}
use lib.Seq.{take_all}
use Prim.Native.Nat.{◌+◌, ◌-◌}
use Rattle.lists.proofs.Moves.{length_part}
use Rattle.splice.specs.Moves.{stored}
use Rattle.convert.proofs.Laws.{old_like_lem, renewed_in}
use Rattle.convert.proofs.write_newer.Goals as goal

pub bounds-old-0 : goal.bounds-old-0
bounds-old-0 c =
    let a = c.args in
    let pre = c.requires in
    let like = old_like_lem a.old.now pre.0 in
    omega (arith, like.header, like.short, pre.1)

pub overflow_add-t : goal.overflow_add-t
overflow_add-t c =
    let a = c.args in
    let pre = c.requires in
    let like = old_like_lem a.old.now pre.0 in
    omega (arith, like.edition)

pub bounds-t-0 : goal.bounds-t-0
bounds-t-0 c =
    let a = c.args in
    let pre = c.requires in
    let like = old_like_lem a.old.now pre.0 in
    omega (arith, like.header, like.short, pre.1)

pub slice_bounds-store-end : goal.slice_bounds-store-end
slice_bounds-store-end c =
    let a = c.args in
    let pre = c.requires in
    let like = old_like_lem a.old.now pre.0 in
    omega (arith, like.header, like.short, pre.1)

pub store-requires : goal.store-requires
store-requires c =
    let a = c.args in
    let pre = c.requires in
    let like = old_like_lem a.old.now pre.0 in
    omega (arith, like.header, like.short, pre.1, length_part a.old.now 1 11 (omega (arith, like.header, like.short, pre.1)), length-set a.t.now 0 (get_or a.old.now 0 0 + 16))

pub slice_bounds-store-count-2 : goal.slice_bounds-store-count-2
slice_bounds-store-count-2 c =
    let a = c.args in
    let pre = c.requires in
    let like = old_like_lem a.old.now pre.0 in
    omega (arith, like.header, like.short, pre.1)

pub slice_bounds-store-start-2 : goal.slice_bounds-store-start-2
slice_bounds-store-start-2 c =
    let a = c.args in
    let pre = c.requires in
    let like = old_like_lem a.old.now pre.0 in
    omega (arith, like.header, like.short, pre.1)

pub store-requires-2 : goal.store-requires-2
store-requires-2 c =
    let a = c.args in
    let pre = c.requires in
    let like = old_like_lem a.old.now pre.0 in
    let store = c.store in
    omega (arith, like.header, like.short, pre.1, length-drop 11 a.old.now, store.auto.t, length-set a.t.now 0 (get_or a.old.now 0 0 + 16))

pub shape_of-t : goal.shape_of-t
shape_of-t c =
    let a = c.args in
    let store = c.store in
    let store2 = c.store-2 in
    store2.auto.t ∙ store.auto.t ∙ length-set a.t.now 0 (get_or a.old.now 0 0 + 16)

pub returns : goal.returns
returns c =
    let a = c.args in
    let pre = c.requires in
    let like = old_like_lem a.old.now pre.0 in
    let store = c.store in
    let store2 = c.store-2 in
    let m = length a.t.now in
    renewed_in a.old.now m a.t.now _ store.new.t store2.new.t like.header (omega (arith, like.short, pre.1)) pre.2 refl store.ensures
    (store2.ensures ∙ ap (stored store.new.t 13) (take_all (length a.old.now - 11) (drop 11 a.old.now) (omega (arith, length-drop 11 a.old.now))))
