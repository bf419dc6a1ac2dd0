use native.Mathlib.Omega.{arith}
use lib.ListN.{length-set}
use Rattle.table.proofs.Numbers.{four}
use Rattle.table.proofs.put_four.Goals as goal

pub bounds-l-at-2 : goal.bounds-l-at-2
bounds-l-at-2 c = simp length-set (omega arith)

pub bounds-l-at-3 : goal.bounds-l-at-3
bounds-l-at-3 c = simp length-set (omega arith)

pub bounds-l-at-4 : goal.bounds-l-at-4
bounds-l-at-4 c = simp length-set (omega arith)

pub returns : goal.returns
returns c =
    let x = c.args in
    let a = x in rw (c.short.ensures, c.short-2.ensures, c.short-3.ensures, c.short-4.ensures) (four a.l.now a.at a.a a.b a.c a.d c.requires.0)
