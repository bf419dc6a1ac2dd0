use mathlib.Core.Path.{refl, ◌∙◌}
use Rattle.file_order.proofs.Taking.{ordered-none, ordered-next, ordered-all}
use native.Mathlib.Omega.{arith}
use Rattle.file_order.proofs.winners.Goals as goal

pub loop-i-init : goal.loop-i-init
loop-i-init c =
    let entry = c.args in
    let pre = c.requires in
    (ordered-none entry.set.now entry.starts.now entry.n entry.order.now pre.0.room pre.2, refl)

pub take_file-k-requires : goal.take_file-k-requires
take_file-k-requires c =
    let pre = c.requires in
    let loop = c.loop-i in
    let loop-test = c.loop-i-test in
    (pre.0, omega (arith, loop.invariant.0.few, loop-test.true), pre.1, loop.invariant.0.kept, omega (arith, loop.invariant.0.few, loop.invariant.0.room, loop-test.true))

pub loop-i-preserved : goal.loop-i-preserved
loop-i-preserved c =
    let entry = c.args in
    let loop = c.loop-i in
    let pre = c.requires in
    let loop-test = c.loop-i-test in
    let take-file = c.take_file-k in (
      ordered-next entry.set.now entry.starts.now entry.n loop.order loop.k loop.i pre.0.room loop.invariant.0 (omega (arith, loop-test.true)) take-file.new.order take-file.result
          take-file.auto.order take-file.ensures,
      take-file.auto.order ∙ loop.invariant.1,
    )

pub shape_of-order : goal.shape_of-order
shape_of-order c =
    let loop = c.loop-i in
    loop.invariant.1

pub returns : goal.returns
returns c =
    let entry = c.args in
    let loop = c.loop-i in
    let loop-test = c.loop-i-test in
    ordered-all entry.set.now entry.starts.now entry.n loop.order loop.k loop.i loop.invariant.0 (omega (arith, loop-test.false))
