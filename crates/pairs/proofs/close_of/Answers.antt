use native.Mathlib.Omega.{arith}
use Rattle.pairs.proofs.Closing.{scan_begins, scan_empty, scan_closed, scan_marked, scan_plain, scan_out}
use Rattle.pairs.proofs.close_of.Goals as goal

pub loop-i-init : goal.loop-i-init
loop-i-init c = scan_begins c.args.line.now c.args.start c.requires

pub loop-i-preserved-then-line-i-ne34 : goal.loop-i-preserved-then-line-i-ne34
loop-i-preserved-then-line-i-ne34 c = scan_plain c.args.line.now c.args.start c.loop-i.i c.loop-i.marks c.loop-i.invariant (omega arith) c.if-line-i-ne34.true

pub returns-then-i-start : goal.returns-then-i-start
returns-then-i-start c =
    let x = c.args in
    scan_empty x.line.now x.start c.loop-i.i c.loop-i.marks c.loop-i.invariant (omega arith) c.if-line-i-ne34.false c.if-i-start.true

pub returns-then-line-i-ne92 : goal.returns-then-line-i-ne92
returns-then-line-i-ne92 c =
    let x = c.args in
    scan_closed x.line.now x.start c.loop-i.i c.loop-i.marks
    c.loop-i.invariant (omega arith) c.if-line-i-ne34.false c.if-i-start.false c.if-line-i-ne92.true

pub overflow_add-marks : goal.overflow_add-marks
overflow_add-marks c = omega (arith, c.loop-i.invariant.counted)

pub loop-i-preserved : goal.loop-i-preserved
loop-i-preserved c =
    let x = c.args in
    scan_marked x.line.now x.start c.loop-i.i c.loop-i.marks
    c.loop-i.invariant (omega arith) c.if-line-i-ne34.false c.if-i-start.false c.if-line-i-ne92.false

pub returns : goal.returns
returns c = scan_out c.args.line.now c.args.start c.loop-i.i c.loop-i.marks c.loop-i.invariant (omega arith)
