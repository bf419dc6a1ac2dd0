-- `rows::parts_at` meets its contract.
use lib.ListN.{length-drop}
use Rattle.rows.proofs.Heads.{head_in, placed}
use native.Mathlib.Omega.{arith}
use Rattle.rows.proofs.parts_at.Goals as goal

pub shape_at-s-requires : goal.shape_at-s-requires
shape_at-s-requires c = head_in c.args.kind c.args.rec.now c.args.p c.requires.1

pub overflow_add-name : goal.overflow_add-name
overflow_add-name c = omega (arith, length-drop c.args.p c.args.rec.now)

pub overflow_add-rest : goal.overflow_add-rest
overflow_add-rest c = omega (arith, length-drop c.args.p c.args.rec.now)

pub overflow_add-result : goal.overflow_add-result
overflow_add-result c = omega (arith, length-drop c.args.p c.args.rec.now)

pub returns : goal.returns
returns c =
    let x = c.args in
    placed x.kind x.rec.now x.p c.head_len.result c.shape_at-s.result c.head_len.ensures c.shape_at-s.ensures c.requires.1
