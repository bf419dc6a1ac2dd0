-- `outcome_readers::run_at` meets its contract.
use lib.ListN.{drop}
use mathlib.Core.Path.{refl}
use Rattle.outcome_check.proofs.Runs.{run_here, run-reads}
use Rattle.outcome_readers.proofs.Walk.{many-turn}
use Rattle.outcome_readers.proofs.Rows.{run_fits, run_is}
use Rattle.outcome_readers.proofs.run_at.Goals as goal

pub parts_at-entry-requires : goal.parts_at-entry-requires
parts_at-entry-requires c = (c.requires.within, run_fits c.args.t.now c.args.p c.requires)

pub returns : goal.returns
returns c =
    let a = c.args in
    let e = c.parts_at-entry.result in
    let w = c.parts_at-entry.ensures in
    let h = c.run_head-head in λ n left rs z k m. let t = many-turn (run-reads n) a.t.now a.p left e w k rs z m in (run_here (drop a.p a.t.now), t.others, t.whole, run_is a.t.now a.p e h.result _ w h.ensures refl refl refl refl, t.read)
