-- `fresh::write_record` meets its contract.
use Rattle.std.proofs.Common.{rules}
use Rattle.fresh.proofs.Laws.{made, made-length, made-fits, head_count}
use Rattle.device_lookup.proofs.Devices.{record_head}
use Rattle.outcome.specs.State.{encode, fresh}
use Rattle.splice.specs.Moves.{padded}
use Rattle.lists.specs.Bytes.{Bytes}
use lib.ListN.{length}
use mathlib.Core.Path.{sym, ap, ◌∙◌}
use Prim.Native.Nat.{ℕ}
use native.Mathlib.Omega.{arith}
use Rattle.fresh.proofs.write_record.Goals as goal

pub read_head-head-requires : goal.read_head-head-requires
read_head-head-requires c =
    let entry = c.args in
    let (d, e) = c.requires.0 in
    let bytes : Bytes entry.device.now = λ i. (c.type_inv.device i).fits in
    record_head entry.device.now d bytes e

pub store-requires : goal.store-requires
store-requires c =
    let pre = c.requires in
    let entry = c.args in
    let properties = c.properties-properties in
    let put-field = c.put_field in
    let set-count = c.set_count in
    let (d, e) = pre.0 in
    let bytes : Bytes entry.device.now = λ i. (c.type_inv.device i).fits in
    let size = made-length d properties.result.now (properties.ensures d e) in
    omega (arith, size, made-fits entry.device.now d e, set-count.auto.t, put-field.auto.t, pre.1)

pub returns : goal.returns
returns c =
    let pre = c.requires in
    let entry = c.args in
    let read_head = c.read_head-head in
    let properties = c.properties-properties in
    let put-field = c.put_field in
    let set-count = c.set_count in
    let store = c.store in
    let bytes : Bytes entry.device.now = λ i. (c.type_inv.device i).fits in
    let size = store.auto.t ∙ set-count.auto.t ∙ put-field.auto.t in
    λ d e.
    let rows = properties.ensures d e in
    let count = head_count entry.device.now d read_head.result bytes e (record_head entry.device.now d bytes e) read_head.ensures in (
      made (length entry.t.now) entry.t.now put-field.new.t set-count.new.t store.new.t (omega (arith, pre.1)) pre.2
          (λ i. search rules) put-field.ensures (λ i. search rules) d read_head.result.properties
          properties.result.now count rows set-count.ensures store.ensures
          ∙ ap (λ (i : ℕ). padded i (encode (fresh d))) (sym size),
      made-length d properties.result.now rows,
    )
