-- `row_edits::insert_text` meets its contract.
use mathlib.Core.Path.{◌∙◌}
use lib.ListN.{length, length-set}
use Rattle.row_edits.proofs.Writes.{text-inserted}
use native.Mathlib.Omega.{arith}
use Rattle.row_edits.proofs.insert_text.Goals as goal

pub store-requires : goal.store-requires
store-requires c =
    let open-gap = c.open_gap in
    let a = c.args in
    omega (arith, open-gap.auto.t, length-set open-gap.new.t a.at (length a.x.now))

pub shape_of-t : goal.shape_of-t
shape_of-t c =
    let open-gap = c.open_gap in
    let a = c.args in
    c.store.auto.t ∙ length-set open-gap.new.t a.at (length a.x.now) ∙ open-gap.auto.t

pub returns : goal.returns
returns c =
    let a = c.args in
    let pre = c.requires in
    let open-gap = c.open_gap in
    let store = c.store in
    text-inserted a.t.now a.at a.used pre.0 a.x.now open-gap.new.t store.new.t pre.1 open-gap.ensures store.ensures
