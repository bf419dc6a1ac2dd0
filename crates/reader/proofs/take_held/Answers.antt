-- `reader::take_held` meets its contract.
use Prim.Native.Nat.{◌+◌, ◌-◌, ◌≤◌, ◌<◌}
use mathlib.Core.Path.{◌≡◌, ◌∙◌}
use native.Mathlib.Omega.{arith}
use borrow.Author.Rules.{rules}
use lib.ListN.{length}
use Rattle.lists.specs.Bytes.{part}
use Rattle.lists.specs.Sizes.{most_text}
use Rattle.lines.specs.Ends.{held_in}
use Rattle.rule_lines.specs.Filling.{start as begun, Room}
use Rattle.rules.specs.Reading.{read_line, reader}
use Rattle.text.specs.Reading.{read_lent}
use Rattle.reader.proofs.Line.{room_less}
use Rattle.reader.proofs.Notes.{fault-kept, rule-kept}
use Rattle.reader.proofs.Places.{reads_as, line_room, bounds, room_here, taken_skip, taken_fault, taken_extra, taken_rule}
use Rattle.reader.proofs.take_held.Goals.{After-bytes_of-bytes, Start}
use Rattle.reader.proofs.take_held.Goals as goal

lent : (w : Start) → let a = w.args in read_lent reader (part a.text.now a.place.at a.line.extent.end) ≡ read_line (held_in a.text.now a.copy.now a.place.at a.line)
lent w = let a = w.args in reads_as a.text.now a.copy.now a.place.at a.line w.requires.1

bounded : (w : Start) → let a = w.args in
    (a.place.at ≤ a.line.extent.end) × (a.line.extent.end ≤ length a.text.now) × (a.place.number + a.line.extent.newlines ≤ a.line.extent.end + 1) × (a.place.number < 65536)
    × (a.line.extent.end ≤ most_text)
bounded w =
    let a = w.args in
    bounds a.text.now a.copy.now a.values.now a.rows.now a.rules.now a.labels.now a.list.now a.strict a.place w.requires.0 a.line.extent.end a.line.extent.newlines w.requires.1.joined_at.0 w.requires.1.joined_at.1

-- there is room for what its bytes can hold, and for those behind it
room : (w : After-bytes_of-bytes) → let a = w.args in
    Room (length a.text.now - a.line.extent.end + length w.bytes_of-bytes.result.now + 1) a.values.now a.rows.now (begun a.place.counts.rows a.place.counts.used)
room w =
    let a = w.args in
    rw w.bytes_of-bytes.ensures (line_room a.text.now a.copy.now a.place.at a.place.number a.values.now a.rows.now a.place.counts w.requires.0.stands a.line w.requires.1)

pub bytes_of-bytes-requires : goal.bytes_of-bytes-requires
bytes_of-bytes-requires c = let b = bounded (goal.at.bytes_of-bytes-requires c).Start in (b.0, b.1, c.requires.1.room)

pub read_line-requires : goal.read_line-requires
read_line-requires c =
    let a = c.args in (
      rw c.bytes_of-bytes.ensures c.requires.1.clean,
      c.requires.0.before.filled.rows,
      room_less _ _ a.values.now a.rows.now (begun a.place.counts.rows a.place.counts.used) (omega arith) (room (goal.at.read_line-requires c).After-bytes_of-bytes),
    )

pub behind-requires : goal.behind-requires
behind-requires c = let b = bounded (goal.at.behind-requires c).Start in (b.2, b.4)

pub returns-in-Ok-None : goal.returns-in-Ok-None
returns-in-Ok-None c =
    let a = c.args in
    let said = rw c.in-Ok-None.field-0-is at (c.in-Ok-None.ensures (length a.text.now - a.line.extent.end) (room (goal.at.returns-in-Ok-None c).After-bytes_of-bytes)) in
    let t = rw c.bytes_of-bytes.ensures at said in
    rw (t.1, t.2, c.behind.ensures) (taken_skip a.text.now a.copy.now a.values.now a.rows.now a.rules.now a.labels.now a.list.now a.strict a.place c.requires.0 a.line.extent.end a.line.extent.newlines
    c.requires.1.joined_at.0 c.requires.1.joined_at.1 (lent (goal.at.returns-in-Ok-None c).Start ∙ t.0))

pub take_fault-requires-in-Err : goal.take_fault-requires-in-Err
take_fault-requires-in-Err c =
    let a = c.args in
    let b = bounded (goal.at.take_fault-requires-in-Err c).Start in
    let t = rw c.bytes_of-bytes.ensures at (c.in-Err.ensures (length a.text.now - a.line.extent.end) (room (goal.at.take_fault-requires-in-Err c).After-bytes_of-bytes)) in (
      b.2,
      b.3,
      b.4,
      room_here a.text.now a.copy.now a.values.now a.rows.now a.rules.now a.labels.now a.list.now a.strict a.place c.requires.0 a.line.extent.end a.line.extent.newlines
          c.requires.1.joined_at.0 c.requires.1.joined_at.1 (fault-kept (lent (goal.at.take_fault-requires-in-Err c).Start ∙ t.0)),
    )

pub returns-in-Err : goal.returns-in-Err
returns-in-Err c =
    let a = c.args in
    let t = rw c.bytes_of-bytes.ensures at (c.in-Err.ensures (length a.text.now - a.line.extent.end) (room (goal.at.returns-in-Err c).After-bytes_of-bytes)) in
    taken_fault a.text.now a.copy.now a.values.now a.rows.now a.rules.now a.labels.now a.list.now a.strict a.place c.requires.0 a.line.extent.end a.line.extent.newlines
    c.requires.1.joined_at.0 c.requires.1.joined_at.1 c.read_line.new.values c.read_line.new.rows c.take_fault-in-Err.new.list t.1 c.in-Err.refusal c.take_fault-in-Err.result
    (lent (goal.at.returns-in-Err c).Start ∙ t.0) c.take_fault-in-Err.ensures

pub take_fault-requires : goal.take_fault-requires
take_fault-requires c =
    let a = c.args in
    let b = bounded (goal.at.take_fault-requires c).Start in
    let said = rw c.in-Ok-Some.field-0-is at (c.in-Ok-Some.ensures (length a.text.now - a.line.extent.end) (room (goal.at.take_fault-requires c).After-bytes_of-bytes)) in
    let t = rw c.bytes_of-bytes.ensures at said in (
      b.2,
      b.3,
      b.4,
      room_here a.text.now a.copy.now a.values.now a.rows.now a.rules.now a.labels.now a.list.now a.strict a.place c.requires.0 a.line.extent.end a.line.extent.newlines
          c.requires.1.joined_at.0 c.requires.1.joined_at.1 (rule-kept (lent (goal.at.take_fault-requires c).Start ∙ t.0)),
    )

pub returns-then-count-ge512 : goal.returns-then-count-ge512
returns-then-count-ge512 c =
    let a = c.args in
    let said = rw c.in-Ok-Some.field-0-is at (c.in-Ok-Some.ensures (length a.text.now - a.line.extent.end) (room (goal.at.returns-then-count-ge512 c).After-bytes_of-bytes)) in
    let t = rw c.bytes_of-bytes.ensures at said in
    taken_extra a.text.now a.copy.now a.values.now a.rows.now a.rules.now a.labels.now a.list.now a.strict a.place c.requires.0 a.line.extent.end a.line.extent.newlines
    c.requires.1.joined_at.0 c.requires.1.joined_at.1 c.read_line.new.values c.read_line.new.rows c.take_fault.new.list t.1.kept _ c.take_fault.result
    (lent (goal.at.returns-then-count-ge512 c).Start ∙ t.0) c.if-count-ge512.true c.take_fault.ensures

pub put_rule-requires : goal.put_rule-requires
put_rule-requires c =
    let a = c.args in
    let b = bounded (goal.at.put_rule-requires c).Start in
    let filled = c.requires.0.before.filled in
    let said = rw c.in-Ok-Some.field-0-is at (c.in-Ok-Some.ensures (length a.text.now - a.line.extent.end) (room (goal.at.put_rule-requires c).After-bytes_of-bytes)) in
    let g = (rw c.bytes_of-bytes.ensures at said).1 in
    (c.if-count-ge512.false, filled.rules_room, filled.labels_room, b.3, g.rows, omega (arith, g.room.rows, g.room.few), g.held.label_in, g.held.goto_in)

pub note_rule-used-requires : goal.note_rule-used-requires
note_rule-used-requires c =
    let a = c.args in
    let b = bounded (goal.at.note_rule-used-requires c).Start in
    let said = rw c.in-Ok-Some.field-0-is at (c.in-Ok-Some.ensures (length a.text.now - a.line.extent.end) (room (goal.at.note_rule-used-requires c).After-bytes_of-bytes)) in
    let t = rw c.bytes_of-bytes.ensures at said in (
      b.3,
      room_here a.text.now a.copy.now a.values.now a.rows.now a.rules.now a.labels.now a.list.now a.strict a.place c.requires.0 a.line.extent.end a.line.extent.newlines
          c.requires.1.joined_at.0 c.requires.1.joined_at.1 (rule-kept (lent (goal.at.note_rule-used-requires c).Start ∙ t.0)),
    )

pub behind-requires-in-Ok-Some : goal.behind-requires-in-Ok-Some
behind-requires-in-Ok-Some c = let b = bounded (goal.at.behind-requires-in-Ok-Some c).Start in (b.2, b.4)

pub returns-else-count-ge512 : goal.returns-else-count-ge512
returns-else-count-ge512 c =
    let a = c.args in
    let said = rw c.in-Ok-Some.field-0-is at (c.in-Ok-Some.ensures (length a.text.now - a.line.extent.end) (room (goal.at.returns-else-count-ge512 c).After-bytes_of-bytes)) in
    let t = rw c.bytes_of-bytes.ensures at said in
    rw c.behind-in-Ok-Some.ensures (taken_rule a.text.now a.copy.now a.values.now a.rows.now a.rules.now a.labels.now a.list.now a.strict a.place c.requires.0 a.line.extent.end a.line.extent.newlines
    c.requires.1.joined_at.0 c.requires.1.joined_at.1 c.read_line.new.values c.read_line.new.rows _ _ _ c.in-Ok-Some.fill _ t.1
    (lent (goal.at.returns-else-count-ge512 c).Start ∙ t.0) c.put_rule.ensures c.if-count-ge512.false _ c.note_rule-used.ensures)
