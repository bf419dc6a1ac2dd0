-- `splice::copy_part` meets its contract.
use Prim.Native.Nat.{◌-◌}
use mathlib.Core.Path.{sym, ap, ◌∙◌}
use native.Mathlib.Omega.{arith}
use lib.ListN.{length}
use Rattle.lists.proofs.Moves.{length_part}
use Rattle.lists.specs.Bytes.{part}
use Rattle.splice.proofs.Laws.{stored-front}
use Rattle.splice.specs.Moves.{stored}
use Rattle.splice.proofs.copy_part.Goals as goal

pub slice_bounds-store-length-2 : goal.slice_bounds-store-length-2
slice_bounds-store-length-2 c =
    let entry = c.args in
    let pre = c.requires in
    let store = c.store in
    sym
    (ap length
    (stored-front _ (part entry.t.now entry.from entry.to) _ (entry.to - entry.from) store.ensures
    (length_part entry.t.now entry.from entry.to pre.1))
    ∙ (length_part entry.t.now entry.from entry.to pre.1))

pub store-requires-2 : goal.store-requires-2
store-requires-2 c =
    let entry = c.args in
    let pre = c.requires in
    let store = c.store in
    omega (
      arith,
      ap length
          (stored-front _ (part entry.t.now entry.from entry.to) _ (entry.to - entry.from) store.ensures
          (length_part entry.t.now entry.from entry.to pre.1)),
      (length_part entry.t.now entry.from entry.to pre.1),
      pre.3,
    )

pub returns : goal.returns
returns c =
    let entry = c.args in
    let pre = c.requires in
    let store = c.store in
    let store2 = c.store-2 in
    store2.ensures ∙ ap (stored entry.t.now entry.at)
    (stored-front _ (part entry.t.now entry.from entry.to) _ (entry.to - entry.from) store.ensures
    (length_part entry.t.now entry.from entry.to pre.1))
