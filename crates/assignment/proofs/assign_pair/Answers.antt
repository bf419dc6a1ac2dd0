-- `assignment::assign_pair` meets its contract.
use mathlib.Core.Path.{refl}
use lib.ListN.{length}
use Rattle.table.specs.Table.{entry_of}
use Rattle.device.specs.Device.{chain}
use Rattle.assign_key.specs.Keys.{work_of}
use Rattle.assignment.proofs.Rows.{pair_says}
use Rattle.assignment.proofs.assign_pair.Goals as goal

pub assign-requires : goal.assign-requires
assign-requires c =
    let pre = c.requires in
    let readable = pre.0.1 in
    (pre.2, pre.3, readable.unbroken, readable.short, readable.fits pre.1)

pub returns : goal.returns
returns c =
    let x = c.args in
    let assign = c.assign in
    λ d s h.
    pair_says d x.place (entry_of x.values.now x.entry) (work_of s x.work.escape) c.requires.1 (length (chain d)) _ assign.result
    (assign.ensures (entry_of x.values.now x.entry) (record { op = refl; argument = refl; value = refl }) d s h)
