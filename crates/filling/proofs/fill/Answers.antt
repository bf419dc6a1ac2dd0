-- `filling::fill` meets its contract.
use mathlib.Core.Path.{sym, subst}
use lib.ListN.{length}
use Rattle.engine.specs.Assign.{source_of}
use Rattle.device_lookup.proofs.Devices.{chain_few}
use Rattle.device.specs.Device.{chain}
use Rattle.outcome_readers.proofs.Outputs.{held_output}
use Rattle.substitution.specs.declared.Places.{Places}
use Rattle.substitution.specs.Places.{From}
use Rattle.substitution.proofs.Sources.{chain_source}
use native.Mathlib.Omega.{arith}
use Rattle.filling.proofs.fill.Goals as goal

pub row_of-row-requires : goal.row_of-row-requires
row_of-row-requires c =
    let pre = c.requires in
    let (d, s, h) = pre.1 in (length (chain d), s, h.held)

pub places_of-from-requires : goal.places_of-from-requires
places_of-from-requires c =
    let pre = c.requires in
    let entry = c.args in
    let (d, s, h) = pre.1 in omega (arith, pre.2, h.chained.len, chain_few entry.dev.now d h.device)

pub substitute-requires : goal.substitute-requires
substitute-requires c =
    let pre = c.requires in
    let entry = c.args in
    let shared-slice-known2 = c.type_inv.dev in
    let row_of = c.row_of-row in
    let (d, s, h) = pre.1 in (
      pre.0,
      (
        source_of d entry.place s,
        (subst (λ (from : Places). From entry.dev.now entry.t.now from (source_of d entry.place s))
            (sym c.places_of-from.ensures)
            (chain_source entry.dev.now d (λ i. (shared-slice-known2 i).fits) h.device entry.chain h.chained
            entry.t.now row_of.result.at row_of.result.count s.properties
            (row_of.ensures (length (chain d)) s h.held).read.0 (row_of.ensures (length (chain d)) s h.held).within
            (row_of.ensures (length (chain d)) s h.held).read.1 s.output
            (held_output (length (chain d)) entry.t.now entry.layout s h.held) entry.place (omega (arith, h.chained.len, pre.2)))),
      ),
      pre.3,
    )

pub returns : goal.returns
returns c =
    let entry = c.args in
    let pre = c.requires in
    let shared-slice-known2 = c.type_inv.dev in
    let row_of = c.row_of-row in
    let places_of = c.places_of-from in
    let substitute = c.substitute in
    λ d s h.
    substitute.ensures (source_of d entry.place s)
    (subst (λ (from : Places). From entry.dev.now entry.t.now from (source_of d entry.place s)) (sym places_of.ensures)
    (chain_source entry.dev.now d (λ i. (shared-slice-known2 i).fits) h.device entry.chain h.chained
    entry.t.now row_of.result.at row_of.result.count s.properties
    (row_of.ensures (length (chain d)) s h.held).read.0 (row_of.ensures (length (chain d)) s h.held).within
    (row_of.ensures (length (chain d)) s h.held).read.1 s.output
    (held_output (length (chain d)) entry.t.now entry.layout s h.held) entry.place (omega (arith, h.chained.len, pre.2))))
