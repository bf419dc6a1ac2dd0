-- `run_files::run_read` meets its contract.
use mathlib.Core.Path.{sym, ◌∙◌}
use lib.ListN.{length}
use Rattle.lists.proofs.Lists.{is-some}
use Rattle.device.specs.Device as D
use Rattle.run.proofs.Laws.{both_held}
use Rattle.run_files.proofs.Answers.{gives-device, gives-outcome, gives-sheet}
use Rattle.run_files.proofs.run_read.Goals as goal

pub returns-then-not-check : goal.returns-then-not-check
returns-then-not-check c =
    let a = c.args in
    let (ls, read) = c.requires.1 in
    c.refuse.ensures
    ∙ sym (gives-device a.set.now a.starts.now a.n a.order.now a.count c.requires.0 a.dev.now a.rec.now a.sheet.now (length a.t.now) c.requires.2 ls read (sym c.check.ensures ∙ c.if-not-check.true))

pub chain_of-chain-requires : goal.chain_of-chain-requires
chain_of-chain-requires c = is-some (D.decode c.args.dev.now) (sym c.check.ensures ∙ c.if-not-check.false)

pub returns-in_default : goal.returns-in_default
returns-in_default c =
    let a = c.args in
    let (ls, read) = c.requires.1 in
    let (d, e) = is-some (D.decode a.dev.now) (sym c.check.ensures ∙ c.if-not-check.false) in
    c.refuse-in_default.ensures
    ∙ sym
    (gives-outcome a.set.now a.starts.now a.n a.order.now a.count c.requires.0 a.dev.now a.rec.now a.sheet.now (length a.t.now) c.requires.2 ls read d e c.chain_of-chain.result
    (c.chain_of-chain.ensures d e) c.in_default.ensures)

pub returns-then-not-check-2 : goal.returns-then-not-check-2
returns-then-not-check-2 c =
    let a = c.args in
    let (ls, read) = c.requires.1 in
    let (d, e) = is-some (D.decode a.dev.now) (sym c.check.ensures ∙ c.if-not-check.false) in
    let (s, held) = both_held a.dev.now a.rec.now d e c.chain_of-chain.result (c.chain_of-chain.ensures d e) c.in-Some.layout c.in-Some.ensures in
    c.refuse-then-not-check-2.ensures
    ∙ sym
    (gives-sheet a.set.now a.starts.now a.n a.order.now a.count c.requires.0 a.dev.now a.rec.now a.sheet.now (length a.t.now) c.requires.2 ls read c.chain_of-chain.result
    c.in-Some.layout d s held (sym c.check-3.ensures ∙ c.if-not-check-2.true))

pub run_sound-requires : goal.run_sound-requires
run_sound-requires c =
    let a = c.args in
    let (d, e) = is-some (D.decode a.dev.now) (sym c.check.ensures ∙ c.if-not-check.false) in
    let (s, held) = both_held a.dev.now a.rec.now d e c.chain_of-chain.result (c.chain_of-chain.ensures d e) c.in-Some.layout c.in-Some.ensures in
    (c.requires.0, c.requires.1, (d, s, held), sym c.check-3.ensures ∙ c.if-not-check-2.false, c.requires.2)
