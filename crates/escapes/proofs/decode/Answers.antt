use Prim.Native.Nat.{◌-◌, ◌<◌}
use mathlib.Core.Path.{◌≡◌, ◌∙◌}
use lib.ListN.{length}
use Rattle.escapes.proofs.Scanning.{scan_begins, scan_closed, scan_bad, scan_next, scan_out}
use native.Mathlib.Omega.{arith}
use Rattle.escapes.proofs.decode.Goals as goal

pub loop-i-init : goal.loop-i-init
loop-i-init c =
    scan_begins c.args.line.now c.args.start c.args.out.now

pub shape_of-out-then-line-i-eq34 : goal.shape_of-out-then-line-i-eq34
shape_of-out-then-line-i-eq34 c = c.loop-i.invariant.kept

pub returns-then-line-i-eq34 : goal.returns-then-line-i-eq34
returns-then-line-i-eq34 c =
    let at = c.loop-i in
    scan_closed c.args.line.now c.args.start c.args.out.now at.out at.i at.len at.invariant (omega arith) c.if-line-i-eq34.true

pub overflow_add-len : goal.overflow_add-len
overflow_add-len c = omega (arith, c.loop-i.invariant.counted)

pub shape_of-out : goal.shape_of-out
shape_of-out c = c.loop-i.invariant.kept

pub returns : goal.returns
returns c =
    let at = c.loop-i in
    scan_out c.args.line.now c.args.start c.args.out.now at.out at.i at.len at.invariant (omega arith)

pub loop-i-preserved : goal.loop-i-preserved
loop-i-preserved c =
    let at = c.loop-i in
    scan_next c.args.line.now c.args.start c.args.out.now at.out at.i at.len at.invariant (omega arith) c.if-line-i-eq34.false
    c.in_ok-taken.taken c.in_ok-taken.ensures.value c.put_at.new.out c.put_at.ensures

pub returns-in_err-taken : goal.returns-in_err-taken
returns-in_err-taken c =
    let at = c.loop-i in
    rw c.from_residual.ensures
    (scan_bad c.args.line.now c.args.start c.args.out.now at.out at.i at.len at.invariant (omega arith) c.if-line-i-eq34.false c.in_err-taken.ensures.value)
