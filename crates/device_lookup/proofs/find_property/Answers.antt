-- `device_lookup::find_property` meets its contract.
use Rattle.lists.specs.Bytes.{Bytes}
use Rattle.device_lookup.proofs.Devices.{record_head, properties_stand, property-says}
use Rattle.device_lookup.proofs.find_property.Goals as goal

pub find_value-requires : goal.find_value-requires
find_value-requires c =
    let l = c.args.rec.now in
    let d = c.requires.0 in
    let e = c.requires.1 in
    let b : Bytes l = λ i. (c.type_inv.rec i).fits in
    let n = c.property_count in
    (record_head l d b e, properties_stand l d b e n.result (n.ensures d e))

pub returns : goal.returns
returns c =
    let a = c.args in
    let l = a.rec.now in
    let b : Bytes l = λ i. (c.type_inv.rec i).fits in
    let n = c.property_count in
    let f = c.find_value in
    ((λ d e. property-says l d b e n.result (n.ensures d e) a.key.now f.result f.ensures.0), f.ensures.1)
