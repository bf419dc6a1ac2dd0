-- `convert::newer` meets its contract.
use Prim.Native.Nat.{ℕ, ◌≤◌}
use mathlib.Core.Path.{◌≡◌, sym, ap, ◌∙◌}
use native.Mathlib.Omega.{arith}
use borrow.Author.Tests.{not-true, not-false}
use lib.ListN.{length, replicate}
use Rattle.lists.specs.Sizes.{fullest_outcome}
use Rattle.lists.proofs.Lists.{is-some}
use Rattle.answers.specs.Answers.{answered}
use Rattle.device.specs.Device as D
use Rattle.outcome.specs.Old.{decode_old}
use Rattle.engine.specs.Operations.{given}
use Rattle.convert.specs.Records.{new_record}
use Rattle.convert.proofs.Laws.{newer_short, newer_device, newer-made}
use Rattle.convert.proofs.newer.Goals as goal

pub returns-then-target-lt-FULLEST : goal.returns-then-target-lt-FULLEST
returns-then-target-lt-FULLEST c =
    let a = c.args in
    let clear = c.clear in
    let m = length a.target.now in
    let e : length clear.new.t ≡ m = omega arith in
    ap (answered c.refused.result) clear.ensures ∙ c.refused.ensures m ∙ sym (newer_short a.device.now a.outcome.now m (omega (arith, c.if-target-lt-FULLEST.true)))

pub returns-then-not-check : goal.returns-then-not-check
returns-then-not-check c =
    let a = c.args in
    let clear = c.clear in
    let m = length a.target.now in
    let e : length clear.new.t ≡ m = omega arith in
    let h : fullest_outcome ≤ m = omega (arith, c.if-target-lt-FULLEST.false) in
    ap (answered c.refused-then-not-check.result) clear.ensures ∙ c.refused-then-not-check.ensures m ∙ sym (newer_device a.device.now a.outcome.now m h (sym c.check.ensures ∙ not-true _ c.if-not-check.true-raw))

pub chain_of-chain-requires : goal.chain_of-chain-requires
chain_of-chain-requires c =
    let a = c.args in
    is-some (D.decode a.device.now) (sym c.check.ensures ∙ not-false _ c.if-not-check.false-raw)

pub renew-requires : goal.renew-requires
renew-requires c =
    let a = c.args in
    let clear = c.clear in
    (c.if-target-lt-FULLEST.false, clear.ensures ∙ ap (λ (n : ℕ). replicate n 0) (sym clear.auto.t))

pub returns : goal.returns
returns c =
    let a = c.args in
    let clear = c.clear in
    let chain-of = c.chain_of-chain in
    let check = c.check in
    let m = length a.target.now in
    let e : length clear.new.t ≡ m = clear.auto.t in
    let h : fullest_outcome ≤ m = omega (arith, c.if-target-lt-FULLEST.false) in
    let d = is-some (D.decode a.device.now) (sym check.ensures ∙ not-false _ c.if-not-check.false-raw) in
    let n = chain-of.result.len in
    c.renew.ensures
    ∙ ap (λ (i : ℕ). given i (new_record (decode_old n a.outcome.now))) e
    ∙ sym (newer-made a.device.now a.outcome.now m h d.0 d.1 chain-of.result (chain-of.ensures d.0 d.1))
