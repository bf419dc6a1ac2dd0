-- `run::run_table` meets its contract.
use mathlib.Core.Path.{sym, ◌∙◌}
use lib.ListN.{length}
use Rattle.lists.proofs.Lists.{is-some}
use Rattle.device.specs.Device.{decode}
use Rattle.sheet.specs.Sheet as Sheets
use Rattle.run.proofs.Laws.{run_device, run_outcome, run_sheet, run-whole, both_held}
use Rattle.run.proofs.run_table.Goals as goal

pub returns-then-not-check : goal.returns-then-not-check
returns-then-not-check c =
    let a = c.args in
    λ text e. c.refuse.ensures ∙ sym (run_device text a.device.now a.outcome.now a.sheet.now (length a.target.now) c.requires.0 _ e (sym c.check.ensures ∙ c.if-not-check.true))

pub chain_of-chain-requires : goal.chain_of-chain-requires
chain_of-chain-requires c = is-some (decode c.args.device.now) (sym c.check.ensures ∙ c.if-not-check.false)

pub returns-in_default : goal.returns-in_default
returns-in_default c =
    let a = c.args in
    let (d, is) = is-some (decode a.device.now) (sym c.check.ensures ∙ c.if-not-check.false) in
    λ text e.
    c.refuse-in_default.ensures
    ∙ sym
    (run_outcome text a.device.now a.outcome.now a.sheet.now (length a.target.now) c.requires.0 _ e d is c.chain_of-chain.result (c.chain_of-chain.ensures d is) c.in_default.ensures)

pub returns-then-not-sound : goal.returns-then-not-sound
returns-then-not-sound c =
    let a = c.args in
    let (d, is) = is-some (decode a.device.now) (sym c.check.ensures ∙ c.if-not-check.false) in
    let both = both_held a.device.now a.outcome.now d is c.chain_of-chain.result (c.chain_of-chain.ensures d is) c.in-Some.layout c.in-Some.ensures in
    λ text e.
    c.refuse-then-not-sound.ensures
    ∙ sym (run_sheet text a.device.now a.outcome.now a.sheet.now (length a.target.now) c.requires.0 _ e _ _ _ _ both.1 (sym c.requires.2 ∙ c.if-not-sound.true))

pub run_sound-requires : goal.run_sound-requires
run_sound-requires c =
    let a = c.args in
    let (d, is) = is-some (decode a.device.now) (sym c.check.ensures ∙ c.if-not-check.false) in
    let both = both_held a.device.now a.outcome.now d is c.chain_of-chain.result (c.chain_of-chain.ensures d is) c.in-Some.layout c.in-Some.ensures in
    (c.requires.0, c.requires.1, (d, both.0, both.1), sym c.requires.2 ∙ c.if-not-sound.false)

pub returns : goal.returns
returns c =
    let a = c.args in
    let (d, is) = is-some (decode a.device.now) (sym c.check.ensures ∙ c.if-not-check.false) in
    let both = both_held a.device.now a.outcome.now d is c.chain_of-chain.result (c.chain_of-chain.ensures d is) c.in-Some.layout c.in-Some.ensures in
    let (x, sound) = is-some (Sheets.decode a.sheet.now) (sym c.requires.2 ∙ c.if-not-sound.false) in
    λ text e.
    c.run_sound.ensures x sound _ _ both.1
    ∙ sym (run-whole text a.device.now a.outcome.now a.sheet.now (length a.target.now) c.requires.0 _ e _ _ _ _ both.1 x sound)
