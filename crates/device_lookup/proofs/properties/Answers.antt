-- `device_lookup::properties` meets its contract.
use Rattle.lists.specs.Bytes.{Bytes}
use Rattle.device_lookup.proofs.Devices.{properties-part}
use Rattle.device_lookup.proofs.properties.Goals as goal

pub returns : goal.returns
returns c =
    let p = c.properties_end-end in
    let l = c.args.rec.now in
    let b : Bytes l = λ i. (c.type_inv.rec i).fits in
    λ d e. properties-part l d b e p.result (p.ensures.0 d e)
