use mathlib.Core.Path.{refl, sym, ◌∙◌}
use Rattle.plan_rows.proofs.Judging.{set-left, set-none, set-counted, left-from, left-faulty, left-sound, left-none}
use native.Mathlib.Omega.{arith}
use Rattle.plan_rows.proofs.judge.Goals as goal

pub returns-then-not-check_wishes : goal.returns-then-not-check_wishes
returns-then-not-check_wishes c = (set-none c.args.set.now (sym c.check_wishes.ensures ∙ c.if-not-check_wishes.true), omega arith, refl)

pub count_of-i-end-requires : goal.count_of-i-end-requires
count_of-i-end-requires c = set-counted c.args.set.now (sym c.check_wishes.ensures ∙ c.if-not-check_wishes.false)

pub loop-i-init : goal.loop-i-init
loop-i-init c = set-left c.args.set.now c.count_of-i-end.result c.count_of-i-end.ensures.0 (sym c.check_wishes.ensures ∙ c.if-not-check_wishes.false)

pub wish_in-place-requires : goal.wish_in-place-requires
wish_in-place-requires c = left-from c.args.set.now c.loop-i.p c.loop-i.i c.count_of-i-end.result c.loop-i.invariant (omega (arith, c.loop-i-test.true))

pub bytes_of-requires : goal.bytes_of-requires
bytes_of-requires c = c.wish_in-place.ensures.device

pub returns-then-not-check : goal.returns-then-not-check
returns-then-not-check c = (
  left-faulty c.args.set.now c.loop-i.p c.loop-i.i c.count_of-i-end.result c.loop-i.invariant (omega (arith, c.loop-i-test.true)) c.wish_in-place.result c.wish_in-place.ensures
      c.bytes_of.result.now c.bytes_of.ensures (sym c.check.ensures ∙ c.if-not-check.true),
  omega (arith, c.loop-i.invariant.few, c.loop-i-test.true),
  refl,
)

pub loop-i-preserved : goal.loop-i-preserved
loop-i-preserved c =
    left-sound c.args.set.now c.loop-i.p c.loop-i.i c.count_of-i-end.result c.loop-i.invariant (omega (arith, c.loop-i-test.true)) c.wish_in-place.result c.wish_in-place.ensures
    c.bytes_of.result.now c.bytes_of.ensures (sym c.check.ensures ∙ c.if-not-check.false)

pub returns : goal.returns
returns c = left-none c.args.set.now c.loop-i.p c.loop-i.i c.count_of-i-end.result c.loop-i.invariant (omega (arith, c.loop-i-test.false))
