-- `device_lookup::properties_end` meets its contract.
use Prim.Native.Nat.{◌+◌}
use mathlib.Core.Path.{◌≡◌, ◌∙◌}
use native.Mathlib.Omega.{arith}
use lib.ListN.{length}
use Rattle.lists.specs.Lists.{cat}
use Rattle.lists.specs.Bytes.{Bytes}
use Rattle.entries.specs.Entry.{enc_prop}
use Rattle.device_lookup.specs.Lookup.{OfDevice}
use Rattle.device_lookup.proofs.Devices.{record_head, properties_stand, properties-end}
use Rattle.device_lookup.proofs.properties_end.Goals as goal

pub row_end-requires : goal.row_end-requires
row_end-requires c =
    let l = c.args.rec.now in
    let d = c.requires.0 in
    let e = c.requires.1 in
    let b : Bytes l = λ i. (c.type_inv.rec i).fits in
    let n = c.property_count in
    (record_head l d b e, properties_stand l d b e n.result (n.ensures d e))

pub returns : goal.returns
returns c =
    let l = c.args.rec.now in
    let b : Bytes l = λ i. (c.type_inv.rec i).fits in
    let n = c.property_count in
    let is : OfDevice l (λ d. c.row_end.result ≡ 7 + length (cat enc_prop d.properties)) = λ d e. c.row_end.ensures.0 ∙ properties-end l d b e n.result (n.ensures d e) in
    (is, omega (arith, is c.requires.0 c.requires.1), c.row_end.ensures.1)
