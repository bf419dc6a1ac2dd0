-- `row_edits::insert_run` meets its contract.
use mathlib.Core.Path.{refl, ap, ◌∙◌}
use mathlib.Core.List.{List, ◌++◌}
use Prim.Native.Nat.{ℕ}
use lib.ListN.{length}
use Rattle.bits.proofs.Fields.{length-packed}
use Rattle.splice.specs.Moves.{inserted}
use Rattle.row_edits.specs.Edits.{run_bits}
use Rattle.row_edits.proofs.Writes.{one-inserted}
use Rattle.row_edits.proofs.insert_run.Goals as goal

pub returns : goal.returns
returns c =
    let x = c.args in
    let a = x in
    let pre = c.requires in
    let write-run-head = c.write_run_head in
    let open-gap = c.open_gap in
    let store = c.store in
    one-inserted a.t.now a.at a.used pre.0 write-run-head.new.head a.template.now open-gap.new.t store.new.t
    (ap length write-run-head.ensures ∙ length-packed (run_bits a.builtin a.place (length a.template.now)) 2 refl) pre.1 open-gap.ensures
    store.ensures ∙ ap (λ (y : List ℕ). inserted a.t.now a.at a.used (y ++ a.template.now)) write-run-head.ensures
