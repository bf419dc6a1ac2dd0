-- `holders::put_row` meets its contract.
use Prim.Native.Nat.{ℕ}
use lib.Dec.{eqb}
use lib.ListN.{length}
use mathlib.Core.List.{[], ◌∷◌}
use mathlib.Core.Path.{◌≡◌, ap₂, ◌∙◌}
use native.Mathlib.Omega.{arith}
use Rattle.holders.proofs.Rows.{but, Stores, row-size, row-stored}
use Rattle.lists.proofs.Lists.{reject-size}
use Rattle.splice.specs.Moves.{stored}
use Rattle.holders.proofs.put_row.Goals as goal

pub overflow_add-start : goal.overflow_add-start
overflow_add-start c =
    let entry = c.args in
    let pre = c.requires in
    let size = row-size entry.name.now entry.holder entry.list.now in
    omega (arith, size, pre.0)

pub overflow_add-behind : goal.overflow_add-behind
overflow_add-behind c =
    let entry = c.args in
    let pre = c.requires in
    let size = row-size entry.name.now entry.holder entry.list.now in
    omega (arith, size, pre.0)

pub store-requires : goal.store-requires
store-requires c =
    let entry = c.args in
    let pre = c.requires in
    let size = row-size entry.name.now entry.holder entry.list.now in
    omega (arith, size, pre.0)

pub put_others-end-requires : goal.put_others-end-requires
put_others-end-requires c =
    let entry = c.args in
    let pre = c.requires in
    let store = c.store in
    let size = row-size entry.name.now entry.holder entry.list.now in
    omega (arith, size, pre.0, store.auto)

pub byte-requires-2 : goal.byte-requires-2
byte-requires-2 c =
    let entry = c.args in
    let put-others = c.put_others-end in
    let pre = c.requires in
    let few = reject-size (λ p. eqb p entry.holder) entry.list.now in
    omega (arith, put-others.ensures.1, few, pre.2)

pub store-requires-2 : goal.store-requires-2
store-requires-2 c =
    let entry = c.args in
    let pre = c.requires in
    let store = c.store in
    let put-others = c.put_others-end in
    let size = row-size entry.name.now entry.holder entry.list.now in
    omega (arith, size, pre.0, store.auto, put-others.auto)

pub returns : goal.returns
returns c =
    let entry = c.args in
    let byte2 = c.byte-2 in
    let put-others = c.put_others-end in
    let store = c.store in
    let store2 = c.store-2 in
    let pre = c.requires in
    let byte = c.byte in
    let size = row-size entry.name.now entry.holder entry.list.now in
    let count : byte2.result ≡ length (but entry.holder entry.list.now) = byte2.ensures ∙ omega (arith, put-others.ensures.1) in
    let stores : Stores entry.t.now store.new.t put-others.new.t store2.new.t entry.at entry.holder entry.name.now entry.list.now =
    record {
      room = pre.0;
      named = store.ensures;
      others = put-others.ensures.0;
      headed = store2.ensures ∙ ap₂ (λ (i j : ℕ). stored put-others.new.t entry.at (i ∷ entry.holder ∷ j ∷ [])) byte.ensures count;
    } in
    (row-stored entry.t.now store.new.t put-others.new.t store2.new.t entry.at entry.holder entry.name.now entry.list.now stores, omega (arith, size, put-others.ensures.1))
