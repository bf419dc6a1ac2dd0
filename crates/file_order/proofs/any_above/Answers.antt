use mathlib.Core.Path.{refl, sym, ◌∙◌}
use Rattle.files.specs.Files.{above}
use Rattle.file_rows.specs.Places.{file_at}
use Rattle.file_order.proofs.Numbers.{any_next, any_none}
use native.Mathlib.Omega.{arith}
use Rattle.file_order.proofs.any_above.Goals as goal

pub loop-j-init : goal.loop-j-init
loop-j-init c =
    refl

pub bounds-starts-j : goal.bounds-starts-j
bounds-starts-j c =
    let pre = c.requires in
    let loop-test = c.loop-j-test in
    omega (arith, pre.0.room, loop-test.true)

pub is_above-requires : goal.is_above-requires
is_above-requires c =
    let pre = c.requires in
    let loop = c.loop-j in
    let loop-test = c.loop-j-test in
    (pre.1, pre.0.stand loop.j (omega (arith, loop-test.true)))

pub returns-then-is_above : goal.returns-then-is_above
returns-then-is_above c =
    let entry = c.args in
    let pre = c.requires in
    let loop = c.loop-j in
    let loop-test = c.loop-j-test in
    let is-above = c.is_above in
    let if1 = c.if-is_above in
    let higher = above (file_at entry.set.now entry.p) in
    rw (any_next entry.set.now entry.starts.now entry.n pre.0.room higher loop.j (omega (arith, loop-test.true)), ← is-above.ensures, if1.true) at loop.invariant

pub loop-j-preserved : goal.loop-j-preserved
loop-j-preserved c =
    let entry = c.args in
    let pre = c.requires in
    let loop = c.loop-j in
    let loop-test = c.loop-j-test in
    let is-above = c.is_above in
    let if1 = c.if-is_above in
    let higher = above (file_at entry.set.now entry.p) in
    rw (any_next entry.set.now entry.starts.now entry.n pre.0.room higher loop.j (omega (arith, loop-test.true)), ← is-above.ensures, if1.false) at loop.invariant

pub returns : goal.returns
returns c =
    let entry = c.args in
    let pre = c.requires in
    let loop = c.loop-j in
    let loop-test = c.loop-j-test in
    sym (any_none entry.set.now entry.starts.now entry.n pre.0.room (above (file_at entry.set.now entry.p)) loop.j (omega (arith, loop-test.false))) ∙ loop.invariant
