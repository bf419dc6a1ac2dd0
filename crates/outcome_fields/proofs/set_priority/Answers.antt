-- `outcome_fields::set_priority` meets its contract.
use Rattle.outcome_fields.proofs.Flags.{priority-put}
use Rattle.outcome_fields.proofs.set_priority.Goals as goal

pub returns : goal.returns
returns c =
    let a = c.args in
    let put-field = c.put_field in
    λ n lay s w. priority-put n a.t.now lay s w (λ i. (c.slice_known-1.given i).fits) put-field.new.t put-field.auto.t a.priority c.requires.1 put-field.ensures
