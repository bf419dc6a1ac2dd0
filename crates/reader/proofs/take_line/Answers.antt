-- `reader::take_line` meets its contract.
use Rattle.reader.proofs.Places.{stands_with, read_fault, bounds, room_here, taken_fault}
use Rattle.reader.proofs.Notes.{fault-kept}
use Rattle.reader.specs.Read.{Reads}
use Rattle.rule_lines.proofs.Filling.{kept_refl}
use borrow.Author.Rules.{rules}
use Rattle.reader.proofs.take_line.Goals.{After-find_line}
use Rattle.reader.proofs.take_line.Goals as goal

reads : (w : After-find_line) → let a = w.args in
    Reads a.text.now w.find_line.new.copy a.values.now a.rows.now a.rules.now a.labels.now a.list.now a.strict a.place
reads w =
    let a = w.args in
    record {
      stands = stands_with a.text.now a.copy.now w.find_line.new.copy a.place.at a.place.number a.values.now a.rows.now a.place.counts w.requires.stands w.find_line.auto.copy;
      before = w.requires.before;
    }

pub take_held-requires : goal.take_held-requires
take_held-requires c = (reads (goal.at.take_held-requires c).After-find_line, c.in-Ok.ensures)

pub take_fault-requires : goal.take_fault-requires
take_fault-requires c =
    let a = c.args in
    let f = read_fault a.text.now a.place.at c.in-Err.fault c.in-Err.ensures in
    let r = reads (goal.at.take_fault-requires c).After-find_line in
    let b = bounds a.text.now c.find_line.new.copy a.values.now a.rows.now a.rules.now a.labels.now a.list.now a.strict a.place r _ _ f.0 f.1 in (
      b.2,
      b.3,
      b.4,
      room_here a.text.now c.find_line.new.copy a.values.now a.rows.now a.rules.now a.labels.now a.list.now a.strict a.place r _ _ f.0 f.1 (fault-kept f.2),
    )

pub returns-in-Err : goal.returns-in-Err
returns-in-Err c =
    let a = c.args in
    let f = read_fault a.text.now a.place.at c.in-Err.fault c.in-Err.ensures in
    taken_fault a.text.now c.find_line.new.copy a.values.now a.rows.now a.rules.now a.labels.now a.list.now a.strict a.place (reads (goal.at.returns-in-Err c).After-find_line) _ _ f.0 f.1
    a.values.now a.rows.now c.take_fault.new.list (kept_refl _ _ a.values.now a.rows.now) c.in-Err.fault.refusal c.take_fault.result f.2 c.take_fault.ensures
