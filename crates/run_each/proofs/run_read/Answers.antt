-- `run_each::run_read` meets its contract.
use Prim.Native.Nat.{◌<◌}
use mathlib.Core.Path.{◌≡◌, sym, ap, ◌∙◌}
use native.Mathlib.Omega.{arith}
use lib.ListN.{length}
use Rattle.lists.specs.Checked.{refused, line}
use Rattle.rules.specs.Reading.{reader}
use Rattle.text.specs.Reading.{read_text}
use Rattle.answers.specs.Answers.{answered}
use Rattle.refusals.specs.Refusals.{refusal_of}
use Rattle.run.proofs.Laws.{run-text}
use Rattle.run_each.proofs.run_read.Goals as goal

pub run_table-requires : goal.run_table-requires
run_table-requires c =
    let pre = c.requires in
    let read = c.in-Ok in
    (pre.0, rw read.is at pre.1, pre.2)

pub refused-requires : goal.refused-requires
refused-requires c =
    let read2 = c.in-Err in
    let pre = c.requires in
    let small : read2.fault.line < 65536 = rw read2.is at pre.1 in omega (arith, small)

pub returns-in-Ok : goal.returns-in-Ok
returns-in-Ok c =
    let run-table = c.run_table in
    let read = c.in-Ok in
    λ text e. run-table.ensures text (rw read.is at e)

pub returns-in-Err : goal.returns-in-Err
returns-in-Err c =
    let read2 = c.in-Err in
    let the-refused = c.refused in
    let clear = c.clear in
    let entry = c.args in
    let pre = c.requires in
    λ text e.
    let said : read_text reader text ≡ refused (line read2.fault.line (refusal_of read2.fault.refusal)) = rw read2.is at e in
    ap (answered the-refused.result) clear.ensures
    ∙ the-refused.ensures (length entry.target.now)
    ∙ sym (run-text text entry.device.now entry.outcome.now entry.sheet.now (length entry.target.now) pre.0 _ said)
