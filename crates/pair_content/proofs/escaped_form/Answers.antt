-- `pair_content::escaped_form` meets its contract.
use lib.ListN.{length}
use mathlib.Core.Path.{sym, ap, ◌∙◌}
use Rattle.pair_content.proofs.escaped_form.Goals as goal

pub slice_bounds-value_form-end : goal.slice_bounds-value_form-end
slice_bounds-value_form-end c = c.value_into-n.ensures.size ∙ sym (ap length c.value_into-n.ensures.is)

pub returns : goal.returns
returns c = rw (← c.value_into-n.ensures.is) c.value_form.ensures
