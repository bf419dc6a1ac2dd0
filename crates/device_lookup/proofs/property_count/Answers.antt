-- `device_lookup::property_count` meets its contract.
use mathlib.Core.Path.{◌∙◌}
use native.Mathlib.Omega.{arith}
use Rattle.device_lookup.proofs.Devices.{record_head, count-is}
use Rattle.device_lookup.proofs.property_count.Goals as goal

pub take-count-requires : goal.take-count-requires
take-count-requires c = omega (arith, record_head c.args.rec.now c.requires.0 (λ i. (c.type_inv.rec i).fits) c.requires.1)

pub returns : goal.returns
returns c =
    let entry = c.args in
    λ d e. c.take-count.ensures.value ∙ count-is entry.rec.now d (λ i. (c.type_inv.rec i).fits) e
