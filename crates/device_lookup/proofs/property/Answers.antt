-- `device_lookup::property` meets its contract.
use mathlib.Core.Path.{◌∙◌}
use Rattle.entries.specs.Entry.{lookup}
use Rattle.device_lookup.proofs.Members.{said-part}
use Rattle.device_lookup.proofs.property.Goals as goal

pub returns : goal.returns
returns c =
    let entry = c.args in
    let f = c.find_property in
    let a = entry in
    λ d e. c.part_of.ensures ∙ said-part a.rec.now f.result (lookup a.key.now d.properties) (f.ensures.0 d e)
