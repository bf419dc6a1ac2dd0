use mathlib.Core.Path.{refl, sym, ◌∙◌}
use native.Mathlib.Omega.{arith}
use Rattle.std.specs.Prelude.{Ok, Err}
use Rattle.claims.proofs.Judging.{set-left, set-none, set-counted, left-from, left-faulty, left-sound, left-none}
use Rattle.claims.specs.Judged.{VerdictIs}
use Rattle.refusals.specs.Refusals.{refusal_of}
use Rattle.set_rows.specs.Places.{lent_in}
use Rattle.sets.specs.Answer.{of_record}
use Rattle.claims.proofs.judge.Goals as goal

pub returns-then-not-check_lent : goal.returns-then-not-check_lent
returns-then-not-check_lent c = (set-none c.args.set.now (sym c.check_lent.ensures ∙ c.if-not-check_lent.true), omega arith, refl)

pub count_of-i-end-requires : goal.count_of-i-end-requires
count_of-i-end-requires c = set-counted c.args.set.now (sym c.check_lent.ensures ∙ c.if-not-check_lent.false)

pub loop-i-init : goal.loop-i-init
loop-i-init c = set-left c.args.set.now c.count_of-i-end.result c.count_of-i-end.ensures.0 (sym c.check_lent.ensures ∙ c.if-not-check_lent.false)

pub lent_in-place-requires : goal.lent_in-place-requires
lent_in-place-requires c = left-from c.args.set.now c.loop-i.p c.loop-i.i c.count_of-i-end.result c.loop-i.invariant (omega (arith, c.loop-i-test.true))

pub bytes_of-requires : goal.bytes_of-requires
bytes_of-requires c = c.lent_in-place.ensures.device

pub bytes_of-requires-in-loop-i : goal.bytes_of-requires-in-loop-i
bytes_of-requires-in-loop-i c = c.lent_in-place.ensures.outcome

pub returns-in-Err : goal.returns-in-Err
returns-in-Err c =
    let place = c.lent_in-place in
    let faulty : VerdictIs (lent_in c.args.set.now place.result).device (lent_in c.args.set.now place.result).outcome (Err c.in-Err.refusal) = rw (c.bytes_of.ensures, c.bytes_of-in-loop-i.ensures) at c.in-Err.ensures in (
      left-faulty c.args.set.now c.loop-i.p c.loop-i.i c.count_of-i-end.result c.loop-i.invariant (omega (arith, c.loop-i-test.true)) place.result place.ensures (of_record 0 (refusal_of c.in-Err.refusal)) faulty,
      omega (arith, c.loop-i.invariant.few, c.loop-i-test.true),
      refl,
    )

pub loop-i-preserved : goal.loop-i-preserved
loop-i-preserved c =
    let place = c.lent_in-place in
    let sound : VerdictIs (lent_in c.args.set.now place.result).device (lent_in c.args.set.now place.result).outcome (Ok tt) = rw (c.bytes_of.ensures, c.bytes_of-in-loop-i.ensures) at c.in_default.ensures in
    left-sound c.args.set.now c.loop-i.p c.loop-i.i c.count_of-i-end.result c.loop-i.invariant (omega (arith, c.loop-i-test.true)) place.result place.ensures sound

pub returns : goal.returns
returns c = left-none c.args.set.now c.loop-i.p c.loop-i.i c.count_of-i-end.result c.loop-i.invariant (omega (arith, c.loop-i-test.false))
