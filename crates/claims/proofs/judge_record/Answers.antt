-- `claims::judge_record` meets its contract.
use mathlib.Core.Path.{sym, ◌∙◌}
use Rattle.claims.proofs.Judging.{device_faulty, both_sound, outcome_faulty}
use Rattle.device.specs.Device.{decode}
use Rattle.lists.proofs.Lists.{is-some}
use Rattle.claims.proofs.judge_record.Goals as goal

pub returns-then-not-check : goal.returns-then-not-check
returns-then-not-check c =
    let entry = c.args in
    let check = c.check in
    let if1 = c.if-not-check in
    device_faulty entry.device.now entry.outcome.now (sym check.ensures ∙ if1.true)

pub chain_of-requires : goal.chain_of-requires
chain_of-requires c =
    let entry = c.args in
    let check = c.check in
    let if1 = c.if-not-check in
    is-some (decode entry.device.now) (sym check.ensures ∙ if1.false)

pub returns-in-Some : goal.returns-in-Some
returns-in-Some c =
    let entry = c.args in
    let check = c.check in
    let if1 = c.if-not-check in
    let chain-of = c.chain_of in
    let enum_told = c.in-Some in
    let check2 = c.check-2 in
    let d = is-some (decode entry.device.now) (sym check.ensures ∙ if1.false) in
    both_sound entry.device.now entry.outcome.now d.0 d.1 chain-of.result (chain-of.ensures d.0 d.1) enum_told.field-0 enum_told.ensures

pub returns-in-None : goal.returns-in-None
returns-in-None c =
    let entry = c.args in
    let check = c.check in
    let if1 = c.if-not-check in
    let chain-of = c.chain_of in
    let enum-told2 = c.in-None in
    let check2 = c.check-2 in
    let d = is-some (decode entry.device.now) (sym check.ensures ∙ if1.false) in
    outcome_faulty entry.device.now entry.outcome.now d.0 d.1 chain-of.result (chain-of.ensures d.0 d.1) enum-told2.ensures
