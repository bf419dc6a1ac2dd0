-- `convert::write_older` meets its contract.
use mathlib.Core.Path.{refl, ap, ◌∙◌}
use native.Mathlib.Omega.{arith}
use lib.ListN.{length, get_or, drop, length-drop, length-set}
use lib.Seq.{take_all}
use Prim.Native.Nat.{◌-◌}
use Rattle.lists.proofs.Moves.{length_part}
use Rattle.splice.specs.Moves.{stored}
use Rattle.convert.proofs.Laws.{aged_in}
use Rattle.convert.proofs.write_older.Goals as goal

pub bounds-rec-0 : goal.bounds-rec-0
bounds-rec-0 c =
    let a = c.args in
    let pre = c.requires in
    omega (arith, pre.0, pre.1)

pub overflow_sub-t : goal.overflow_sub-t
overflow_sub-t c =
    let a = c.args in
    let pre = c.requires in
    omega (arith, pre.2)

pub bounds-t-0 : goal.bounds-t-0
bounds-t-0 c =
    let a = c.args in
    let pre = c.requires in
    omega (arith, pre.0, pre.1)

pub slice_bounds-store-end : goal.slice_bounds-store-end
slice_bounds-store-end c =
    let a = c.args in
    let pre = c.requires in
    omega (arith, pre.0, pre.1)

pub store-requires : goal.store-requires
store-requires c =
    let a = c.args in
    let pre = c.requires in
    omega (arith, pre.0, pre.1, length_part a.rec.now 1 11 (omega (arith, pre.0, pre.1)), length-set a.t.now 0 (get_or a.rec.now 0 0 - 16))

pub slice_bounds-store-count-2 : goal.slice_bounds-store-count-2
slice_bounds-store-count-2 c =
    let a = c.args in
    let pre = c.requires in
    omega (arith, pre.0, pre.1)

pub slice_bounds-store-start-2 : goal.slice_bounds-store-start-2
slice_bounds-store-start-2 c =
    let a = c.args in
    let pre = c.requires in
    omega (arith, pre.0, pre.1)

pub store-requires-2 : goal.store-requires-2
store-requires-2 c =
    let a = c.args in
    let pre = c.requires in
    let store = c.store in
    omega (arith, pre.0, pre.1, length-drop 13 a.rec.now, store.auto.t, length-set a.t.now 0 (get_or a.rec.now 0 0 - 16))

pub shape_of-t : goal.shape_of-t
shape_of-t c =
    let a = c.args in
    let store = c.store in
    let store2 = c.store-2 in
    store2.auto.t ∙ store.auto.t ∙ length-set a.t.now 0 (get_or a.rec.now 0 0 - 16)

pub returns : goal.returns
returns c =
    let a = c.args in
    let pre = c.requires in
    let store = c.store in
    let store2 = c.store-2 in
    let m = length a.t.now in
    aged_in a.rec.now m a.t.now _ store.new.t store2.new.t pre.0 (omega (arith, pre.0, pre.1)) pre.3 refl store.ensures
    (store2.ensures ∙ ap (stored store.new.t 11) (take_all (length a.rec.now - 13) (drop 13 a.rec.now) (omega (arith, length-drop 13 a.rec.now))))
