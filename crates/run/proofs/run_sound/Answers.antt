-- `run::run_sound` meets its contract.
use Prim.Native.Nat.{ℕ, ◌≤◌}
use mathlib.Core.Path.{◌≡◌, sym, subst}
use mathlib.Core.List.{List}
use Rattle.std.specs.Prelude.{Some, Ok, Err}
use native.Mathlib.Omega.{arith}
use lib.ListN.{length}
use Rattle.lists.specs.Checked.{line}
use Rattle.lists.specs.Sizes.{fullest_outcome}
use Rattle.lists.proofs.Lists.{is-some}
use Rattle.device.specs.Device.{Device, chain}
use Rattle.device_lookup.specs.declared.Chain.{Chain}
use Rattle.outcome.specs.State.{State}
use Rattle.outcome_target.specs.declared.Layout.{Layout}
use Rattle.outcome_target.specs.Held as target
use Rattle.refusals.specs.Refusals.{refusal_of}
use Rattle.text.specs.Running.{next, run_from}
use Rattle.sheet.specs.Sheet.{decode}
use Rattle.engine.specs.Operations.{engine}
use Rattle.records.specs.Records.{Denotes}
use Rattle.table.specs.Table.{rules_from}
use Rattle.runner.specs.Runs.{Runs}
use Rattle.run.specs.Running.{Held}
use Rattle.run.proofs.Laws.{record_short, used_few, sound-ended, sound-refused}
use Rattle.run.proofs.run_sound.Goals as goal

loaded : (dev rec : List ℕ) (places : Chain) (lay : Layout) (t : List ℕ) → target.Loaded rec t → fullest_outcome ≤ length t
    → (d : Device) (s : State) → Held dev rec places lay d s → Denotes dev places t lay d s
loaded dev rec places lay t load room d s h = record {
  device = h.device;
  chained = h.chained;
  held = subst (λ (x : Layout). target.Held (length (chain d)) t x s) (sym h.layout) (load (length (chain d)) s h.outcome room);
}

pub load-requires : goal.load-requires
load-requires c =
    let a = c.args in
    let (d, s, h) = c.requires.2 in
    omega (arith, record_short a.dev.now a.rec.now a.chain a.layout d s (λ i. (c.type_inv.rec i).fits) h, c.requires.0)

pub run_rules-requires : goal.run_rules-requires
run_rules-requires c =
    let a = c.args in
    let (d, s, h) = c.requires.2 in
    (c.requires.1, (d, s, loaded a.dev.now a.rec.now a.chain a.layout c.load.new.t c.load.ensures (omega (arith, c.requires.0)) d s h), c.requires.3)

pub accepted-requires : goal.accepted-requires
accepted-requires c =
    let a = c.args in
    let (d, s, h) = c.requires.2 in
    let (x, sound) = is-some (decode a.sheet.now) c.requires.3 in
    let is : Runs a.values.now a.rows.now a.rules.now a.count a.dev.now a.chain a.sheet.now c.load.new.t a.layout c.run_rules.new.t (Ok c.in-Ok.ended) = c.in-Ok.ensures in
    let (y, _, z, _, _) = is.says x sound d s (loaded a.dev.now a.rec.now a.chain a.layout c.load.new.t c.load.ensures (omega (arith, c.requires.0)) d s h) in
    (omega (arith, is.small.0), omega (arith, is.small.1), omega (arith, used_few (length (chain d)) _ c.in-Ok.ended.layout y.state z.held))

pub refuse-requires : goal.refuse-requires
refuse-requires c =
    let a = c.args in
    let is : Runs a.values.now a.rows.now a.rules.now a.count a.dev.now a.chain a.sheet.now c.load.new.t a.layout c.run_rules.new.t (Err c.in-Err.fault) = c.in-Err.ensures in
    omega (arith, is.small)

pub returns-in-Ok : goal.returns-in-Ok
returns-in-Ok c =
    let a = c.args in
    let is : Runs a.values.now a.rows.now a.rules.now a.count a.dev.now a.chain a.sheet.now c.load.new.t a.layout c.run_rules.new.t (Ok c.in-Ok.ended) = c.in-Ok.ensures in
    λ x sound d s h.
    let (y, e, z, v, u) = is.says x sound d s (loaded a.dev.now a.rec.now a.chain a.layout c.load.new.t c.load.ensures (omega (arith, c.requires.0)) d s h) in
    sound-ended (length a.t.now) (length (chain d)) c.run_rules.new.t c.in-Ok.ended.layout c.in-Ok.ended.visited c.in-Ok.ended.tried
    (run_from (engine x) d next s (rules_from a.values.now a.rows.now a.rules.now 0 a.count)) y e z.held v u (omega (arith, is.length, c.load.auto.t)) c.accepted.result c.accepted.ensures

pub returns-in-Err : goal.returns-in-Err
returns-in-Err c =
    let a = c.args in
    let fault = c.in-Err.fault in
    let is : Runs a.values.now a.rows.now a.rules.now a.count a.dev.now a.chain a.sheet.now c.load.new.t a.layout c.run_rules.new.t (Err c.in-Err.fault) = c.in-Err.ensures in
    λ x sound d s h.
    sound-refused (length a.t.now) (length c.run_rules.new.t) (omega (arith, is.length, c.load.auto.t)) (run_from (engine x) d next s (rules_from a.values.now a.rows.now a.rules.now 0 a.count))
    (line fault.line (refusal_of fault.refusal))
    (is.says x sound d s (loaded a.dev.now a.rec.now a.chain a.layout c.load.new.t c.load.ensures (omega (arith, c.requires.0)) d s h)) _ c.refuse.ensures
