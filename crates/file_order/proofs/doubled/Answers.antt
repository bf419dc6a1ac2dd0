use mathlib.Core.Path.{refl, sym, ◌∙◌}
use Rattle.file_order.proofs.Numbers.{doubled-next, doubled-none}
use native.Mathlib.Omega.{arith}
use Rattle.file_order.proofs.doubled.Goals as goal

pub loop-i-init : goal.loop-i-init
loop-i-init c =
    refl

pub returns-then-comes_again : goal.returns-then-comes_again
returns-then-comes_again c =
    let entry = c.args in
    let pre = c.requires in
    let loop = c.loop-i in
    let loop-test = c.loop-i-test in
    let comes-again = c.comes_again in
    let if1 = c.if-comes_again in
    rw (doubled-next entry.set.now entry.starts.now entry.n pre.room loop.i (omega (arith, loop-test.true)), ← comes-again.ensures, if1.true) at loop.invariant

pub loop-i-preserved : goal.loop-i-preserved
loop-i-preserved c =
    let entry = c.args in
    let pre = c.requires in
    let loop = c.loop-i in
    let loop-test = c.loop-i-test in
    let comes-again = c.comes_again in
    let if1 = c.if-comes_again in
    rw (doubled-next entry.set.now entry.starts.now entry.n pre.room loop.i (omega (arith, loop-test.true)), ← comes-again.ensures, if1.false) at loop.invariant

pub returns : goal.returns
returns c =
    let entry = c.args in
    let pre = c.requires in
    let loop = c.loop-i in
    let loop-test = c.loop-i-test in
    sym (doubled-none entry.set.now entry.starts.now entry.n pre.room loop.i (omega (arith, loop-test.false))) ∙ loop.invariant
