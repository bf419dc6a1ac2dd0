use Prim.Native.Nat.{◌-◌}
use native.Mathlib.Omega.{arith}
use Rattle.bits.proofs.Windows.{written_none, written_start, written_step, written-rest, written_all}
use Rattle.bits.proofs.set_window.Goals as goal

pub loop-i-init : goal.loop-i-init
loop-i-init c = let a = c.args in (written_none a.s.now a.first a.count a.w, written_start a.s.now a.first a.count a.w)

pub loop-i-preserved : goal.loop-i-preserved
loop-i-preserved c =
    let x = c.args in
    let a = x in let l = c.loop-i in (
      written_step a.s.now a.first a.count a.w l.s l.i l.rest
          (omega arith) (omega arith) (omega arith) l.invariant.0 l.invariant.1,
      written-rest a.s.now a.first a.count a.w l.i l.rest (omega arith) (omega arith) l.invariant.1,
    )

pub returns : goal.returns
returns c = let a = c.args in let l = c.loop-i in written_all a.s.now a.first a.count a.w l.s l.i (omega arith) l.invariant.0
