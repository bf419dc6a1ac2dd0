-- `device_lookup::find_value` meets its contract.
use mathlib.Core.Path.{sym, ap, subst, ◌∙◌}
use lib.ListN.{length}
use Rattle.rows.specs.Row as rows
use Rattle.device_lookup.specs.Lookup.{value_of}
use Rattle.device_lookup.proofs.find_value.Goals as goal

pub returns-in-Ok : goal.returns-in-Ok
returns-in-Ok c =
    let entry = c.args in
    let find = c.find in (
      ap value_of (sym c.in-Ok.is ∙ find.ensures.0),
      (subst (λ x. rows.Within x (length entry.rec.now)) c.in-Ok.is find.ensures.1).1,
    )

pub returns-in-Err : goal.returns-in-Err
returns-in-Err c = (ap value_of (sym c.in-Err.is ∙ c.find.ensures.0), tt)
