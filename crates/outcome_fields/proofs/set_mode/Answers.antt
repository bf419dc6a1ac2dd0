-- `outcome_fields::set_mode` meets its contract.
use mathlib.Core.Path.{◌∙◌}
use Rattle.outcome_fields.proofs.Flags.{mode-put}
use Rattle.outcome_fields.proofs.set_mode.Goals as goal

pub returns : goal.returns
returns c =
    let x = c.args in
    let a = x in
    let put-field = c.put_field in
    let put-field2 = c.put_field-2 in
    λ n lay s w. mode-put n a.t.now lay s w a.mode c.requires.1 put-field.new.t put-field2.new.t
    (λ i. (c.slice_known-1.given i).fits) put-field.ensures
    (λ i. (c.slice_known-2-1.given i).fits) put-field2.ensures (put-field2.auto.t ∙ put-field.auto.t)
