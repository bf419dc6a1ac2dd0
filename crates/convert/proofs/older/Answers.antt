-- `convert::older` meets its contract.
use Rattle.std.proofs.Common.{ℕ, ◌≤◌, ◌≡◌, sym, ap, ◌∙◌, arith, length}
use borrow.Author.Tests.{not-true, not-false}
use lib.ListN.{replicate}
use Rattle.lists.specs.Sizes.{fullest_old}
use Rattle.lists.proofs.Lists.{is-some}
use Rattle.answers.specs.Answers.{answered}
use Rattle.device.specs.Device as D
use Rattle.outcome.specs.State.{decode}
use Rattle.outcome_check.proofs.Answers.{sound-state}
use Rattle.engine.specs.Operations.{given}
use Rattle.convert.specs.Records.{old_record}
use Rattle.convert.proofs.Laws.{older_short, older_device, older_outcome, older-made}
use Rattle.convert.proofs.older.Goals as goal

pub returns-then-target-lt-OLD_FULLEST : goal.returns-then-target-lt-OLD_FULLEST
returns-then-target-lt-OLD_FULLEST c =
    let a = c.args in
    let m = length a.target.now in
    let e : length c.clear.new.t ≡ m = omega arith in
    ap (answered c.refused.result) c.clear.ensures ∙ c.refused.ensures m
    ∙ sym (older_short a.device.now a.outcome.now m (omega (arith, c.if-target-lt-OLD_FULLEST.true)))

pub returns-then-not-check : goal.returns-then-not-check
returns-then-not-check c =
    let a = c.args in
    let m = length a.target.now in
    let e : length c.clear.new.t ≡ m = omega arith in
    let h : fullest_old ≤ m = omega (arith, c.if-target-lt-OLD_FULLEST.false) in
    ap (answered c.refused-then-not-check.result) c.clear.ensures ∙ c.refused-then-not-check.ensures m
    ∙ sym (older_device a.device.now a.outcome.now m h (sym c.check.ensures ∙ not-true _ c.if-not-check.true-raw))

pub chain_of-chain-requires : goal.chain_of-chain-requires
chain_of-chain-requires c = is-some (D.decode c.args.device.now) (sym c.check.ensures ∙ not-false _ c.if-not-check.false-raw)

pub age-requires : goal.age-requires
age-requires c =
    let n = c.chain_of-chain.result.len in
    let found = sound-state (decode n c.args.outcome.now) c.in-Some.field-0 (sym c.in-Some.is ∙ c.check-2.ensures) in
    (c.if-target-lt-OLD_FULLEST.false, c.clear.ensures ∙ ap (λ (k : ℕ). replicate k 0) (sym c.clear.auto.t), (n, found.0, found.1))

pub returns : goal.returns
returns c =
    let a = c.args in
    let m = length a.target.now in
    let e : length c.clear.new.t ≡ m = c.clear.auto.t in
    let h : fullest_old ≤ m = omega (arith, c.if-target-lt-OLD_FULLEST.false) in
    let d = is-some (D.decode a.device.now) (sym c.check.ensures ∙ not-false _ c.if-not-check.false-raw) in
    let r = c.chain_of-chain.result in
    let found = sound-state (decode r.len a.outcome.now) c.in-Some.field-0 (sym c.in-Some.is ∙ c.check-2.ensures) in
    c.age.ensures r.len found.0 found.1
    ∙ ap (λ (i : ℕ). given i (old_record found.0)) e
    ∙ sym (older-made a.device.now a.outcome.now m h d.0 d.1 r (c.chain_of-chain.ensures d.0 d.1) found.0 found.1)

pub returns-in_default : goal.returns-in_default
returns-in_default c =
    let a = c.args in
    let m = length a.target.now in
    let e : length c.clear.new.t ≡ m = c.clear.auto.t in
    let h : fullest_old ≤ m = omega (arith, c.if-target-lt-OLD_FULLEST.false) in
    let d = is-some (D.decode a.device.now) (sym c.check.ensures ∙ not-false _ c.if-not-check.false-raw) in
    ap (answered c.refused-in_default.result) c.clear.ensures ∙ c.refused-in_default.ensures m
    ∙ sym (older_outcome a.device.now a.outcome.now m h d.0 d.1 c.chain_of-chain.result (c.chain_of-chain.ensures d.0 d.1) (sym c.in_default.is ∙ c.check-2.ensures))
