-- `device_lookup::attribute` meets its contract.
use mathlib.Core.Path.{◌∙◌}
use Rattle.device.specs.Device.{attr_of}
use Rattle.device_lookup.proofs.Members.{said-part}
use Rattle.device_lookup.proofs.attribute.Goals as goal

pub returns : goal.returns
returns c =
    let entry = c.args in
    let f = c.find_attribute in
    let a = entry in
    λ m h. c.part_of.ensures ∙ said-part a.rec.now f.result (attr_of a.key.now m) (f.ensures.0 m h)
