use mathlib.Core.Path.{refl, sym, ◌∙◌}
use lib.ListN.{get_or}
use Rattle.files.specs.Files.{same_file}
use Rattle.file_rows.specs.Places.{file_at}
use Rattle.file_order.proofs.Numbers.{any_next, any_none}
use native.Mathlib.Omega.{arith}
use Rattle.file_order.proofs.comes_again.Goals as goal

pub bounds-starts-i : goal.bounds-starts-i
bounds-starts-i c =
    let pre = c.requires in
    omega (arith, pre.0.room, pre.1)

pub loop-j-init : goal.loop-j-init
loop-j-init c =
    refl

pub bounds-starts-j : goal.bounds-starts-j
bounds-starts-j c =
    let pre = c.requires in
    let loop-test = c.loop-j-test in
    omega (arith, pre.0.room, loop-test.true)

pub same_file-requires : goal.same_file-requires
same_file-requires c =
    let pre = c.requires in
    let entry = c.args in
    let loop = c.loop-j in
    let loop-test = c.loop-j-test in
    (pre.0.stand entry.i (omega (arith, pre.1)), pre.0.stand loop.j (omega (arith, loop-test.true)))

pub returns-then-same_file : goal.returns-then-same_file
returns-then-same_file c =
    let entry = c.args in
    let pre = c.requires in
    let loop = c.loop-j in
    let loop-test = c.loop-j-test in
    let same-file = c.same_file in
    let if1 = c.if-same_file in
    let same = same_file (file_at entry.set.now (get_or entry.starts.now entry.i 0)) in
    rw (any_next entry.set.now entry.starts.now entry.n pre.0.room same loop.j (omega (arith, loop-test.true)), ← same-file.ensures, if1.true) at loop.invariant

pub loop-j-preserved : goal.loop-j-preserved
loop-j-preserved c =
    let entry = c.args in
    let pre = c.requires in
    let loop = c.loop-j in
    let loop-test = c.loop-j-test in
    let same-file = c.same_file in
    let if1 = c.if-same_file in
    let same = same_file (file_at entry.set.now (get_or entry.starts.now entry.i 0)) in
    rw (any_next entry.set.now entry.starts.now entry.n pre.0.room same loop.j (omega (arith, loop-test.true)), ← same-file.ensures, if1.false) at loop.invariant

pub returns : goal.returns
returns c =
    let entry = c.args in
    let pre = c.requires in
    let loop = c.loop-j in
    let loop-test = c.loop-j-test in
    let same = same_file (file_at entry.set.now (get_or entry.starts.now entry.i 0)) in
    sym (any_none entry.set.now entry.starts.now entry.n pre.0.room same loop.j (omega (arith, loop-test.false))) ∙ loop.invariant
