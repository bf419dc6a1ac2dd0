-- `file_order::take_file` meets its contract.
use Prim.Native.Nat.{ℕ}
use mathlib.Core.Path.{sym, ap, ◌∙◌}
use mathlib.Core.List.{[], ◌∷◌}
use Rattle.splice.specs.Moves.{inserted}
use Rattle.file_order.proofs.Taking.{passed, taken}
use native.Mathlib.Omega.{arith}
use Rattle.file_order.proofs.take_file.Goals as goal

pub offset_bounds-starts-i : goal.offset_bounds-starts-i
offset_bounds-starts-i c =
    let pre = c.requires in
    omega (arith, pre.0.room, pre.1)

pub bounds-starts-i : goal.bounds-starts-i
bounds-starts-i c =
    let pre = c.requires in
    omega (arith, pre.0.room, pre.1)

pub loses-requires : goal.loses-requires
loses-requires c =
    let pre = c.requires in
    let entry = c.args in
    (pre.0, pre.0.stand entry.i pre.1)

pub returns-then-loses : goal.returns-then-loses
returns-then-loses c =
    let entry = c.args in
    let pre = c.requires in
    let loses = c.loses in
    let if1 = c.if-loses in
    passed entry.set.now entry.starts.now entry.n entry.order.now entry.k entry.i pre.3 (sym loses.ensures ∙ if1.true)

pub place_of-at-requires : goal.place_of-at-requires
place_of-at-requires c =
    let pre = c.requires in
    let entry = c.args in
    (pre.0, pre.3, pre.0.stand entry.i pre.1)

pub byte-requires : goal.byte-requires
byte-requires c =
    let pre = c.requires in
    omega (arith, pre.1, pre.2)

pub insert-requires : goal.insert-requires
insert-requires c =
    let place_of = c.place_of-at in
    let pre = c.requires in
    (place_of.ensures.1, omega (arith, pre.4))

pub returns : goal.returns
returns c =
    let entry = c.args in
    let pre = c.requires in
    let place_of = c.place_of-at in
    let insert = c.insert in
    let byte = c.byte in
    let loses = c.loses in
    let if1 = c.if-loses in
    taken entry.set.now entry.starts.now entry.n entry.order.now entry.k entry.i pre.3 place_of.result insert.new.t place_of.ensures pre.4 pre.1 (insert.ensures ∙ ap
    (λ (x : ℕ). inserted entry.order.now place_of.result entry.k (x ∷ [])) byte.ensures) insert.auto.t (sym loses.ensures ∙ if1.false)
