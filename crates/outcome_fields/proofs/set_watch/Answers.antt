-- `outcome_fields::set_watch` meets its contract.
use Rattle.outcome_fields.proofs.Flags.{watch_put}
use Rattle.outcome_fields.proofs.set_watch.Goals as goal

pub returns : goal.returns
returns c =
    let a = c.args in
    let put-field = c.put_field in
    λ n lay s w. watch_put n a.t.now lay s w (λ i. (c.slice_known-1.given i).fits) put-field.new.t put-field.auto.t a.watch c.requires.1 put-field.ensures
