-- `left_lines::put_strike` meets its contract.
use Rattle.left_lines.proofs.Lines.{listed-none, strike-size, listed-one}
use Rattle.left_lines.proofs.put_strike.Goals as goal

pub returns-then-fault-eq0 : goal.returns-then-fault-eq0
returns-then-fault-eq0 c =
    let a = c.args in listed-none a.number a.fault a.used a.list.now c.if-fault-eq0.true

pub put_note-requires : goal.put_note-requires
put_note-requires c =
    let a = c.args in
    (rw (strike-size a.number a.fault a.used a.list.now c.if-fault-eq0.false) at c.requires.0, c.requires.1, c.requires.2)

pub returns : goal.returns
returns c =
    let a = c.args in
    listed-one a.number a.fault a.used a.list.now _ _ c.if-fault-eq0.false c.put_note.ensures.0 c.put_note.ensures.1 c.put_note.ensures.2
