use Prim.Native.Nat.{ℕ}
use mathlib.Core.Path.{◌≡◌, sym, ap, ap₂, ◌∙◌}
use lib.ListN.{get_or}
use Rattle.files.specs.Files.{before}
use Rattle.file_rows.specs.Places.{file_at}
use Rattle.file_order.specs.Order.{file_on}
use Rattle.file_order.proofs.Numbers.{kept_at}
use Rattle.file_order.proofs.Taking.{place_here, place-on, place_end}
use native.Mathlib.Omega.{arith}
use Rattle.file_order.proofs.place_of.Goals as goal

pub name_of-name-requires : goal.name_of-name-requires
name_of-name-requires c =
    let pre = c.requires in
    pre.2

pub loop-j-init : goal.loop-j-init
loop-j-init c = omega arith

pub bounds-order-j : goal.bounds-order-j
bounds-order-j c =
    let pre = c.requires in
    let loop-test = c.loop-j-test in
    omega (arith, pre.1.room, loop-test.true)

pub offset_bounds-starts-i : goal.offset_bounds-starts-i
offset_bounds-starts-i c =
    let entry = c.args in
    let loop = c.loop-j in
    let pre = c.requires in
    let loop-test = c.loop-j-test in
    let wide = c.from-i in
    let number = kept_at entry.n entry.order.now entry.k loop.j pre.1 (omega (arith, loop-test.true)) in
    omega (arith, number, wide.ensures, pre.0.room)

pub bounds-starts-i : goal.bounds-starts-i
bounds-starts-i c =
    let entry = c.args in
    let loop = c.loop-j in
    let pre = c.requires in
    let loop-test = c.loop-j-test in
    let wide = c.from-i in
    let number = kept_at entry.n entry.order.now entry.k loop.j pre.1 (omega (arith, loop-test.true)) in
    omega (arith, number, wide.ensures, pre.0.room)

pub name_of-requires : goal.name_of-requires
name_of-requires c =
    let entry = c.args in
    let loop = c.loop-j in
    let pre = c.requires in
    let loop-test = c.loop-j-test in
    let wide = c.from-i in
    let number = kept_at entry.n entry.order.now entry.k loop.j pre.1 (omega (arith, loop-test.true)) in
    pre.0.stand wide.result (omega (arith, number, wide.ensures))

pub returns-then-comes_before : goal.returns-then-comes_before
returns-then-comes_before c =
    let entry = c.args in
    let loop = c.loop-j in
    let name-of2 = c.name_of in
    let wide = c.from-i in
    let name-of = c.name_of-name in
    let comes-before = c.comes_before in
    let pre = c.requires in
    let loop-test = c.loop-j-test in
    let if1 = c.if-comes_before in
    let named : (file_on entry.set.now entry.starts.now (get_or entry.order.now loop.j 0)).name ≡ name-of2.result.now
    = ap (λ (i : ℕ). (file_on entry.set.now entry.starts.now i).name) (sym wide.ensures) ∙ sym name-of2.ensures in
    let first = ap₂ before (sym name-of.ensures) named ∙ sym comes-before.ensures in
    let here = place_here entry.set.now entry.starts.now entry.order.now entry.k pre.1.room (file_at entry.set.now entry.p) loop.j (omega (arith, loop-test.true)) (first ∙ if1.true) in
    (omega (arith, here, loop.invariant), omega (arith, loop-test.true))

pub loop-j-preserved : goal.loop-j-preserved
loop-j-preserved c =
    let entry = c.args in
    let loop = c.loop-j in
    let name-of2 = c.name_of in
    let wide = c.from-i in
    let name-of = c.name_of-name in
    let comes-before = c.comes_before in
    let pre = c.requires in
    let loop-test = c.loop-j-test in
    let if1 = c.if-comes_before in
    let named : (file_on entry.set.now entry.starts.now (get_or entry.order.now loop.j 0)).name ≡ name-of2.result.now
    = ap (λ (i : ℕ). (file_on entry.set.now entry.starts.now i).name) (sym wide.ensures) ∙ sym name-of2.ensures in
    let first = ap₂ before (sym name-of.ensures) named ∙ sym comes-before.ensures in
    let on = place-on entry.set.now entry.starts.now entry.order.now entry.k pre.1.room (file_at entry.set.now entry.p) loop.j (omega (arith, loop-test.true)) (first ∙ if1.false) in
    sym on ∙ loop.invariant

pub returns : goal.returns
returns c =
    let end = place_end c.args.set.now c.args.starts.now c.args.order.now c.args.k c.requires.1.room (file_at c.args.set.now c.args.p) c.loop-j.j (omega (arith, c.loop-j-test.false)) in
    (omega (arith, end, c.loop-j.invariant, c.loop-j-test.false), omega arith)
