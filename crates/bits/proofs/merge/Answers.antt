-- `bits::merge` meets its contract: the parts and their sum stay below 2 ^ 64.
use native.Mathlib.Omega.{arith}
use Rattle.bits.proofs.Windows.{high_room, low_room, merged_room, rest_room}
use Rattle.bits.proofs.merge.Goals as goal

pub overflow_mul-result : goal.overflow_mul-result
overflow_mul-result c = let a = c.args in let p = c.requires in rw c.power-p.ensures.0 (omega (arith, high_room a.w a.n a.behind a.v p.0 p.1 p.2))

pub overflow_add-result-2 : goal.overflow_add-result-2
overflow_add-result-2 c = let a = c.args in let p = c.requires in rw c.power-p.ensures.0 (omega (arith, high_room a.w a.n a.behind a.v p.0 p.1 p.2, low_room a.w a.n a.behind a.v p.0 p.1 p.2))

pub overflow_mul-result-2 : goal.overflow_mul-result-2
overflow_mul-result-2 c = let a = c.args in let p = c.requires in rw (c.power-p.ensures.0, c.power-q.ensures.0) (omega (arith, merged_room a.w a.n a.behind a.v p.0 p.1 p.2))

pub overflow_add-result-3 : goal.overflow_add-result-3
overflow_add-result-3 c = let a = c.args in let p = c.requires in rw (c.power-p.ensures.0, c.power-q.ensures.0) (omega (arith, merged_room a.w a.n a.behind a.v p.0 p.1 p.2, rest_room a.w a.n a.behind a.v p.0 p.1 p.2))

pub returns : goal.returns
returns c = rw (c.power-p.ensures.0, c.power-q.ensures.0)
