use Prim.Native.Nat.{ℕ, ◌+◌, ◌-◌}
use borrow.Author.Tests.{eq-eqb, ne_eqb}
use lib.ListN.{length, take, get_or, length-append, length-set}
use mathlib.Core.List.{List, [], ◌∷◌}
use Rattle.holders.proofs.put_others.Goals.{then-position-holder, else-position-holder}
use mathlib.Core.Path.{refl, sym, ap, ◌∙◌}
use native.Mathlib.Omega.{arith}
use Rattle.holders.proofs.Rows.{but, but_holder, but_other, but_room, but-all, put_one, stored-none}
use Rattle.splice.specs.Moves.{stored}
use Rattle.holders.proofs.put_others.Goals as goal

pub loop-position-init : goal.loop-position-init
loop-position-init c =
    let entry = c.args in
    (omega arith, stored-none entry.t.now entry.at, refl)

pub bounds-t-end : goal.bounds-t-end
bounds-t-end c =
    let entry = c.args in
    let loop = c.loop-position in
    let if1 = c.if-position-holder in
    let loop-test = c.loop-position-test in
    let pre = c.requires in
    let other = ne_eqb (get_or entry.list.now loop.position-index 0) entry.holder if1.true in
    let room = but_room entry.holder entry.list.now loop.position-index (omega (arith, loop-test.true)) other in
    omega (arith, room, loop.invariant.0, loop.invariant.2, pre)

pub overflow_add-end : goal.overflow_add-end
overflow_add-end c =
    let entry = c.args in
    let loop = c.loop-position in
    let if1 = c.if-position-holder in
    let loop-test = c.loop-position-test in
    let pre = c.requires in
    let other = ne_eqb (get_or entry.list.now loop.position-index 0) entry.holder if1.true in
    let room = but_room entry.holder entry.list.now loop.position-index (omega (arith, loop-test.true)) other in
    omega (arith, room, loop.invariant.0, pre)

pub loop-position-preserved : goal.loop-position-preserved
loop-position-preserved c =
    let entry = c.args in
    let loop = c.loop-position in
    let loop-test = c.loop-position-test in
    let pre = c.requires in
    let if1 = c.if-position-holder in
    let v = get_or entry.list.now loop.position-index 0 in
    let x = but entry.holder (take loop.position-index entry.list.now) in
    elim if1.branch [
      | then-position-holder w ↦
          let other = ne_eqb v entry.holder w.if-position-holder.true in
          let room = but_room entry.holder entry.list.now loop.position-index (omega (arith, loop-test.true)) other in
          let grown = but_other entry.holder entry.list.now loop.position-index (omega (arith, loop-test.true)) other in (
            w.end-is ∙ omega (arith, loop.invariant.0, ap length grown, length-append x (v ∷ [])),
            w.t-is ∙ put_one entry.t.now loop.t x entry.at loop.end v loop.invariant.1 loop.invariant.0 (omega (arith, room, loop.invariant.0, pre)) ∙ ap (stored entry.t.now entry.at) (sym grown),
            ap length w.t-is ∙ length-set loop.t loop.end v ∙ loop.invariant.2,
          )
      | else-position-holder w ↦
          let same = but_holder entry.holder entry.list.now loop.position-index (omega (arith, loop-test.true)) (eq-eqb v entry.holder w.if-position-holder.false) in (
            w.end-is ∙ loop.invariant.0 ∙ ap (λ (y : List ℕ). entry.at + length y) (sym same),
            w.t-is ∙ loop.invariant.1 ∙ ap (stored entry.t.now entry.at) (sym same),
            ap length w.t-is ∙ loop.invariant.2,
          )
    ]

pub shape_of-t : goal.shape_of-t
shape_of-t c =
    let loop = c.loop-position in
    loop.invariant.2

pub returns : goal.returns
returns c =
    let entry = c.args in
    let loop = c.loop-position in
    let loop-test = c.loop-position-test in
    let all = but-all entry.holder entry.list.now loop.position-index (omega arith) (omega (arith, loop-test.false)) in
    (loop.invariant.1 ∙ ap (stored entry.t.now entry.at) all, loop.invariant.0 ∙ ap (λ (x : List ℕ). entry.at + length x) all)
