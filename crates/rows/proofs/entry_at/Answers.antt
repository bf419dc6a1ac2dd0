-- `rows::entry_at` meets its contract.
use lib.ListN.{length-drop}
use native.Mathlib.Omega.{arith}
use Rattle.rows.proofs.entry_at.Goals as goal

pub returns-then-room-head : goal.returns-then-room-head
returns-then-room-head c = omega (arith, length-drop c.args.p c.args.rec.now, c.head_len-head.ensures)

pub returns-then-room-head-2 : goal.returns-then-room-head-2
returns-then-room-head-2 c =
    let x = c.args in
    omega (arith, length-drop x.p x.rec.now, c.head_len-head.ensures, c.shape_at-s.ensures.name, c.shape_at-s.ensures.rest)
