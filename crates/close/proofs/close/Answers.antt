-- `close::close` meets its contract.
use Rattle.std.proofs.Common.{ℕ, ◌≤◌, ◌≡◌, sym, ap, ◌∙◌, arith, length}
use borrow.Author.Tests.{not-true, not-false}
use lib.ListN.{replicate}
use Rattle.lists.proofs.Lists.{is-some}
use Rattle.lists.specs.Sizes.{fullest_run_list}
use Rattle.device.specs.Device.{decode}
use Rattle.engine.specs.Operations.{commands, given}
use Rattle.answers.specs.Answers.{answered}
use Rattle.close.specs.Closing.{listed}
use Rattle.close.proofs.Laws.{close_short, close_device, close_outcome, close_both, close-listed}
use Rattle.close.proofs.close.Goals as goal

pub returns-then-target-lt-FULLEST : goal.returns-then-target-lt-FULLEST
returns-then-target-lt-FULLEST c =
    let x = c.args in
    let room = length x.target.now in
    let e : length c.clear.new.t ≡ room = omega arith in
    ap (answered c.refused.result) c.clear.ensures ∙ c.refused.ensures room
    ∙ sym (close_short x.device.now x.outcome.now room (omega (arith, c.if-target-lt-FULLEST.true)))

pub returns-then-not-check : goal.returns-then-not-check
returns-then-not-check c =
    let x = c.args in
    let room = length x.target.now in
    let e : length c.clear.new.t ≡ room = omega arith in
    let h : fullest_run_list ≤ room = omega (arith, c.if-target-lt-FULLEST.false) in
    ap (answered c.refused-then-not-check.result) c.clear.ensures ∙ c.refused-then-not-check.ensures room
    ∙ sym (close_device x.device.now x.outcome.now room h (sym c.check.ensures ∙ not-true _ c.if-not-check.true-raw))

pub chain_of-chain-requires : goal.chain_of-chain-requires
chain_of-chain-requires c = is-some (decode c.args.device.now) (sym c.check.ensures ∙ not-false _ c.if-not-check.false-raw)

pub list-requires : goal.list-requires
list-requires c =
    let x = c.args in
    let room = length x.target.now in
    let e : length c.clear.new.t ≡ room = omega arith in
    let h : fullest_run_list ≤ room = omega (arith, c.if-target-lt-FULLEST.false) in
    let (d, f) = is-some (decode x.device.now) (sym c.check.ensures ∙ not-false _ c.if-not-check.false-raw) in
    let chain = c.chain_of-chain in
    let w = close_both x.device.now x.outcome.now room h d f chain.result (chain.ensures d f) c.in-Some.layout (sym c.in-Some.is ∙ c.check-2.ensures) in
    (omega (arith, e, h), c.clear.ensures ∙ ap (λ (n : ℕ). replicate n 0) (sym e), (d, w.0, w.1))

pub returns : goal.returns
returns c =
    let x = c.args in
    let room = length x.target.now in
    let e : length c.clear.new.t ≡ room = omega arith in
    let h : fullest_run_list ≤ room = omega (arith, c.if-target-lt-FULLEST.false) in
    let (d, f) = is-some (decode x.device.now) (sym c.check.ensures ∙ not-false _ c.if-not-check.false-raw) in
    let chain = c.chain_of-chain in
    let (s, w) = close_both x.device.now x.outcome.now room h d f chain.result (chain.ensures d f) c.in-Some.layout (sym c.in-Some.is ∙ c.check-2.ensures) in
    c.list.ensures d s w
    ∙ ap (λ (n : ℕ). given n (listed (commands d s.properties s.output s.runs))) e
    ∙ sym (close-listed x.device.now x.outcome.now room h chain.result c.in-Some.layout d s w)

pub returns-in_default : goal.returns-in_default
returns-in_default c =
    let x = c.args in
    let room = length x.target.now in
    let e : length c.clear.new.t ≡ room = omega arith in
    let h : fullest_run_list ≤ room = omega (arith, c.if-target-lt-FULLEST.false) in
    let (d, f) = is-some (decode x.device.now) (sym c.check.ensures ∙ not-false _ c.if-not-check.false-raw) in
    let chain = c.chain_of-chain in
    ap (answered c.refused-in_default.result) c.clear.ensures ∙ c.refused-in_default.ensures room
    ∙ sym (close_outcome x.device.now x.outcome.now room h d f chain.result (chain.ensures d f) (sym c.in_default.is ∙ c.check-2.ensures))
