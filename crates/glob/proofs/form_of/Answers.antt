-- `glob::form_of` meets its contract.
use mathlib.Core.Path.{sym, ◌∙◌}
use Rattle.glob.proofs.form_of.Goals as goal

pub returns-then-all_plain : goal.returns-then-all_plain
returns-then-all_plain c = sym c.all_plain.ensures ∙ c.if-all_plain.true

pub returns-then-well_formed : goal.returns-then-well_formed
returns-then-well_formed c = sym c.well_formed-2.ensures ∙ c.if-well_formed.true

pub returns : goal.returns
returns c = sym c.well_formed-2.ensures ∙ c.if-well_formed.false
