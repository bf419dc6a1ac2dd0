-- `outcome_target::load` meets its contract.
use Rattle.std.proofs.Common.{length, ◌∙◌}
use Rattle.outcome_target.proofs.Loading.{loaded}
use Rattle.outcome_target.proofs.load.Goals as goal

pub returns : goal.returns
returns c =
    loaded (length c.args.t.now) c.args.rec.now c.clear.new.t c.store.new.t (λ i. (c.type_inv.rec i).fits) c.clear.ensures c.store.ensures (c.store.auto.t ∙ c.clear.auto.t)
