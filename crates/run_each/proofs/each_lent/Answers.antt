-- `run_each::each_lent` meets its contract.
use native.Mathlib.Omega.{arith}
use Rattle.run_each.specs.Runs.{Readable}
use Rattle.run_each.proofs.Laws.{readable, read_as, noted_readable, noted_read_as}
use Rattle.run_each.proofs.each_lent.Goals as goal

pub note_actions-requires : goal.note_actions-requires
note_actions-requires c =
    let read = c.read_text-read in
    let l = read.new in
    let pre = c.requires in
    (l.values, (l.jumps, readable c.args.text.now l.values l.rows l.rules l.labels l.jumps read.result read.ensures (omega (arith, read.auto.rules, pre.2)) (omega (arith, read.auto.jumps, pre.4))))

pub run_records-requires : goal.run_records-requires
run_records-requires c =
    let read = c.read_text-read in
    let l = read.new in
    let pre = c.requires in
    let table = readable c.args.text.now l.values l.rows l.rules l.labels l.jumps read.result read.ensures (omega (arith, read.auto.rules, pre.2)) (omega (arith, read.auto.jumps, pre.4)) in (
      pre.0,
      noted_readable l.values l.rows l.rules _ l.jumps read.result c.note_actions.ensures table,
      c.check.ensures,
    )

pub returns : goal.returns
returns c =
    let read = c.read_text-read in
    let l = read.new in
    let read_is = read_as c.args.text.now l.values l.rows l.rules l.labels l.jumps read.result read.ensures in
    c.run_records.ensures c.args.text.now (noted_read_as c.args.text.now l.values l.rows l.rules _ read.result c.note_actions.ensures read_is)
