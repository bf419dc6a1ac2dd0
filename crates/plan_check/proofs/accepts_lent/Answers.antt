-- `plan_check::accepts_lent` meets its contract.
use Prim.Native.Nat.{ℕ}
use lib.ListN.{length-replicate}
use Rattle.run_each.proofs.Laws.{readable, read_as}
use native.Mathlib.Omega.{arith}
use Rattle.plan_check.proofs.accepts_lent.Goals as goal

pub names_each-requires : goal.names_each-requires
names_each-requires c =
    let entry = c.args in
    let read-text = c.read_text-read in
    let pre = c.requires in (
      readable entry.text.now read-text.new.values read-text.new.rows read-text.new.rules read-text.new.labels read-text.new.jumps read-text.result read-text.ensures
          (omega (arith, read-text.auto.rules, pre.3)) (omega (arith, read-text.auto.jumps, pre.5)),
      pre.0,
      pre.1,
      length-replicate {A = ℕ} 18125 0,
    )

pub returns : goal.returns
returns c =
    let names-each = c.names_each in
    let entry = c.args in
    let read-text = c.read_text-read in
    names-each.ensures entry.text.now
    (read_as entry.text.now read-text.new.values read-text.new.rows read-text.new.rules read-text.new.labels read-text.new.jumps read-text.result read-text.ensures)
