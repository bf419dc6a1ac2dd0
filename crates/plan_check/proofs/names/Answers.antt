-- `plan_check::names` meets its contract.
use mathlib.Core.Path.{◌≡◌, refl, sym, ◌∙◌}
use lib.ListN.{length}
use lib.Seq.{length-take-le}
use Rattle.lists.specs.Checked.{refused, line}
use Rattle.refusals.specs.Refusals.{refusal_of}
use Rattle.rules.specs.Reading.{reader}
use Rattle.device.specs.Device.{chain}
use Rattle.outcome.specs.State as O
use Rattle.outcome.specs.State.{State}
use Rattle.text.specs.Reading.{read_text}
use Rattle.text.specs.Running.{Ran, next, run_from}
use Rattle.engine.specs.Operations.{engine}
use Rattle.table.specs.Table.{rules_from}
use Rattle.runner.specs.Runs.{Runnable, Says}
use Rattle.std.specs.Prelude.{Ok, Err}
use Rattle.run.specs.Running.{Holds}
use Rattle.plan.specs.Plan.{unanswered}
use Rattle.plan_check.proofs.Naming.{sheet_sound, sheet_none, begun, names-unread, names-refused, names-ended, left-fits, left_read}
use borrow.Author.Rules.{rules}
use Rattle.plan_check.proofs.names.Goals as goal

pub returns-in_default : goal.returns-in_default
returns-in_default c =
    let enum_told = c.in_default in
    let entry = c.args in
    λ text e d is.
    let unread : read_text reader text ≡ refused (line enum_told.field-0.line (refusal_of enum_told.field-0.refusal)) = rw enum_told.is at e in
    names-unread entry.device.now entry.link.now d is text _ unread

pub run_rules-ran-requires : goal.run_rules-ran-requires
run_rules-ran-requires c =
    let pre = c.requires in
    let entry = c.args in
    let fresh = c.fresh-begun in
    let chain-of = c.chain_of in
    let read = c.in-Ok in
    let (d, is) = pre.1 in
    let holds =
    begun entry.device.now entry.link.now d is fresh.new.target (length entry.t.now) pre.2 fresh.auto.target fresh.result fresh.ensures
    chain-of.result (chain-of.ensures d is) _ refl
    in
    let runnable : Runnable entry.values.now entry.rows.now entry.rules.now entry.jumps.now read.counts.rules = rw read.is at pre.0 in
    (runnable, (d, O.fresh d, holds), sheet_sound)

pub shape_of-t-in_default-ran : goal.shape_of-t-in_default-ran
shape_of-t-in_default-ran c =
    let run-rules = c.run_rules-ran in
    let fresh = c.fresh-begun in
    run-rules.ensures.length ∙ fresh.auto.target

pub returns-in_default-ran : goal.returns-in_default-ran
returns-in_default-ran c =
    let entry = c.args in
    let fresh = c.fresh-begun in
    let pre = c.requires in
    let chain-of = c.chain_of in
    let read = c.in-Ok in
    let run-rules = c.run_rules-ran in
    let enum-told2 = c.in_default-ran in
    λ text e d is.
    let holds =
    begun entry.device.now entry.link.now d is fresh.new.target (length entry.t.now) pre.2 fresh.auto.target fresh.result fresh.ensures
    chain-of.result (chain-of.ensures d is) _ refl
    in
    let held : Holds text entry.values.now entry.rows.now entry.rules.now read.counts.rules = rw read.is at e in
    let runs : Ran State = run_from (engine unanswered) d next (O.fresh d) (rules_from entry.values.now entry.rows.now entry.rules.now 0 read.counts.rules) in
    let stopped : Says entry.device.now chain-of.result d run-rules.new.t (Err enum-told2.field-0) runs =
    (enum-told2.ensures.says unanswered sheet_none d (O.fresh d) holds) in
    names-refused entry.device.now entry.link.now d is text (rules_from entry.values.now entry.rows.now entry.rules.now 0 read.counts.rules) held _ stopped

pub slice_bounds-has_only-end : goal.slice_bounds-has_only-end
slice_bounds-has_only-end c =
    let pre = c.requires in
    let entry = c.args in
    let fresh = c.fresh-begun in
    let chain-of = c.chain_of in
    let read = c.in-Ok in
    let run-rules = c.run_rules-ran in
    let ran = c.in-Ok-ran in
    let (d, is) = pre.1 in
    let holds =
    begun entry.device.now entry.link.now d is fresh.new.target (length entry.t.now) pre.2 fresh.auto.target fresh.result fresh.ensures
    chain-of.result (chain-of.ensures d is) _ refl
    in
    let runs : Ran State = run_from (engine unanswered) d next (O.fresh d) (rules_from entry.values.now entry.rows.now entry.rules.now 0 read.counts.rules) in
    let (h, e, left, _, _) : Says entry.device.now chain-of.result d run-rules.new.t (Ok ran.ended) runs =
    (ran.ensures.says unanswered sheet_none d (O.fresh d) holds) in
    left-fits (length (chain d)) run-rules.new.t ran.ended.layout h.state left.held

pub slice_bounds-has_only-end-2 : goal.slice_bounds-has_only-end-2
slice_bounds-has_only-end-2 c =
    let pre = c.requires in
    let entry = c.args in
    let fresh = c.fresh-begun in
    let chain-of = c.chain_of in
    let read = c.in-Ok in
    let run-rules = c.run_rules-ran in
    let ran = c.in-Ok-ran in
    let (d, is) = pre.1 in
    let holds =
    begun entry.device.now entry.link.now d is fresh.new.target (length entry.t.now) pre.2 fresh.auto.target fresh.result fresh.ensures
    chain-of.result (chain-of.ensures d is) _ refl
    in
    let runs : Ran State = run_from (engine unanswered) d next (O.fresh d) (rules_from entry.values.now entry.rows.now entry.rules.now 0 read.counts.rules) in
    let (h, e, left, _, _) : Says entry.device.now chain-of.result d run-rules.new.t (Ok ran.ended) runs =
    (ran.ensures.says unanswered sheet_none d (O.fresh d) holds) in
    sym (length-take-le ran.ended.layout.end run-rules.new.t (left-fits (length (chain d)) run-rules.new.t ran.ended.layout h.state left.held))

pub has_only-requires : goal.has_only-requires
has_only-requires c =
    let pre = c.requires in
    let entry = c.args in
    let fresh = c.fresh-begun in
    let chain-of = c.chain_of in
    let read = c.in-Ok in
    let run-rules = c.run_rules-ran in
    let ran = c.in-Ok-ran in
    let (d, is) = pre.1 in
    let holds =
    begun entry.device.now entry.link.now d is fresh.new.target (length entry.t.now) pre.2 fresh.auto.target fresh.result fresh.ensures
    chain-of.result (chain-of.ensures d is) _ refl
    in
    let runs : Ran State = run_from (engine unanswered) d next (O.fresh d) (rules_from entry.values.now entry.rows.now entry.rules.now 0 read.counts.rules) in
    let (h, e, left, _, _) : Says entry.device.now chain-of.result d run-rules.new.t (Ok ran.ended) runs =
    (ran.ensures.says unanswered sheet_none d (O.fresh d) holds) in
    (length (chain d), h.state, left_read (length (chain d)) run-rules.new.t ran.ended.layout h.state left.held)

pub shape_of-t : goal.shape_of-t
shape_of-t c =
    let run-rules = c.run_rules-ran in
    let fresh = c.fresh-begun in
    run-rules.ensures.length ∙ fresh.auto.target

pub returns : goal.returns
returns c =
    let entry = c.args in
    let fresh = c.fresh-begun in
    let pre = c.requires in
    let chain-of = c.chain_of in
    let read = c.in-Ok in
    let run-rules = c.run_rules-ran in
    let ran = c.in-Ok-ran in
    let has-only = c.has_only in
    λ text f d is.
    let holds =
    begun entry.device.now entry.link.now d is fresh.new.target (length entry.t.now) pre.2 fresh.auto.target fresh.result fresh.ensures
    chain-of.result (chain-of.ensures d is) _ refl
    in
    let runs : Ran State = run_from (engine unanswered) d next (O.fresh d) (rules_from entry.values.now entry.rows.now entry.rules.now 0 read.counts.rules) in
    let (h, e, left, _, _) : Says entry.device.now chain-of.result d run-rules.new.t (Ok ran.ended) runs =
    (ran.ensures.says unanswered sheet_none d (O.fresh d) holds) in
    let held : Holds text entry.values.now entry.rows.now entry.rules.now read.counts.rules = rw read.is at f in
    has-only.ensures (length (chain d)) h.state (left_read (length (chain d)) run-rules.new.t ran.ended.layout h.state left.held)
    ∙ sym (names-ended entry.device.now entry.link.now d is text (rules_from entry.values.now entry.rows.now entry.rules.now 0 read.counts.rules) held h e)
