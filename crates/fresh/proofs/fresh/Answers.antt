-- `fresh::fresh` meets its contract.
use Rattle.std.proofs.Common.{ℕ, sym, ap, ◌∙◌, arith, length}
use borrow.Author.Tests.{not-true, not-false}
use lib.ListN.{replicate}
use Rattle.lists.proofs.Lists.{is-some}
use Rattle.text.specs.Run.{acceptance}
use Rattle.device.specs.Device.{decode}
use Rattle.outcome.specs.State.{encode, fresh}
use Rattle.answers.specs.Answers.{answered}
use Rattle.fresh.proofs.Laws.{given_short, given-faulty, given_made, made-fits}
use Rattle.fresh.proofs.fresh.Goals as goal

pub returns-then-target-lt-FULLEST : goal.returns-then-target-lt-FULLEST
returns-then-target-lt-FULLEST c =
    let a = c.args in
    let room = length a.target.now in
    ap (answered c.refused.result) c.clear.ensures ∙ c.refused.ensures room
    ∙ sym (given_short a.device.now room (omega (arith, c.clear.auto.t, c.if-target-lt-FULLEST.true)))

pub returns-then-not-check : goal.returns-then-not-check
returns-then-not-check c =
    let a = c.args in
    let room = length a.target.now in
    ap (answered c.refused-then-not-check.result) c.clear.ensures ∙ c.refused-then-not-check.ensures room
    ∙ sym
    (given-faulty a.device.now room (omega (arith, c.clear.auto.t, c.if-target-lt-FULLEST.false))
    (sym c.check.ensures ∙ not-true _ c.if-not-check.true-raw))

pub write_record-requires : goal.write_record-requires
write_record-requires c = (
  is-some (decode c.args.device.now) (sym c.check.ensures ∙ not-false _ c.if-not-check.false-raw),
  c.if-target-lt-FULLEST.false,
  c.clear.ensures ∙ ap (λ (i : ℕ). replicate i 0) (sym c.clear.auto.t),
)

pub accepted-requires : goal.accepted-requires
accepted-requires c =
    let device = c.args.device.now in
    let (d, e) = is-some (decode device) (sym c.check.ensures ∙ not-false _ c.if-not-check.false-raw) in
    (omega arith, omega arith, omega (arith, (c.write_record.ensures d e).1, made-fits device d e))

pub returns : goal.returns
returns c =
    let a = c.args in
    let room = length a.target.now in
    let (d, e) = is-some (decode a.device.now) (sym c.check.ensures ∙ not-false _ c.if-not-check.false-raw) in
    let made = c.write_record.ensures d e in
    ap (answered c.accepted.result) made.0
    ∙ c.accepted.ensures (length c.write_record.new.t) (encode (fresh d)) made.1
    ∙ ap (λ (i : ℕ). acceptance i 0 0 (encode (fresh d))) (c.write_record.auto.t ∙ c.clear.auto.t)
    ∙ sym (given_made a.device.now room (omega (arith, c.clear.auto.t, c.if-target-lt-FULLEST.false)) d e)
