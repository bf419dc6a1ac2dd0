-- `record_trials::agree_views` meets its contract: behind the check the record is sound.
use Rattle.std.proofs.Common.{sym, ◌∙◌}
use borrow.Author.Tests.{not-false}
use Rattle.lists.proofs.Lists.{is-some}
use Rattle.device.specs.Device.{decode}
use Rattle.record_trials.proofs.agree_views.Goals as goal

pub chain_of-chain-requires : goal.chain_of-chain-requires
chain_of-chain-requires c = is-some (decode c.args.rec.now) (sym c.check.ensures ∙ not-false _ c.if-not-check.false-raw)

pub agree_view-n-requires : goal.agree_view-n-requires
agree_view-n-requires c = (is-some (decode c.args.rec.now) (sym c.check.ensures ∙ not-false _ c.if-not-check.false-raw), c.chain_of-chain.ensures)

pub agree_place-requires : goal.agree_place-requires
agree_place-requires c = (is-some (decode c.args.rec.now) (sym c.check.ensures ∙ not-false _ c.if-not-check.false-raw), c.chain_of-chain.ensures)
