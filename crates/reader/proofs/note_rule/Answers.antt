-- `reader::note_rule` meets its contract.
use native.Mathlib.Omega.{arith}
use Rattle.reader.proofs.note_rule.Goals as goal

pub returns-then-strict : goal.returns-then-strict
returns-then-strict c =
    let if1 = c.if-strict in
    rw if1.true tt

pub put_note-requires : goal.put_note-requires
put_note-requires c =
    let if1 = c.if-strict in
    (c.requires.1 if1.false, c.requires.0, omega arith)

pub returns : goal.returns
returns c =
    let if1 = c.if-strict in
    let put-note = c.put_note in
    rw if1.false (put-note.ensures.0, put-note.ensures.1)
