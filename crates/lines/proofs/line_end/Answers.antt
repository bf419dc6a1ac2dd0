use Prim.Native.Nat.{◌-◌}
use native.Mathlib.Omega.{arith}
use Rattle.lines.proofs.Ends.{scan_groups, scan_other, scan_newline, scan_out}
use Rattle.lines.proofs.line_end.Goals as goal

pub loop-i-init : goal.loop-i-init
loop-i-init c =
    let (from, within, above) = c.line_groups-i.ensures in
    scan_groups c.args.text.now c.args.at c.line_groups-i.result from within above

pub loop-i-preserved-then-b-gt10 : goal.loop-i-preserved-then-b-gt10
loop-i-preserved-then-b-gt10 c =
    let turn = c.loop-i in
    scan_other c.args.text.now c.args.at turn.i turn.invariant (omega arith) (λ e. omega arith) (λ e. omega arith)

pub ended-requires : goal.ended-requires
ended-requires c =
    let turn = c.loop-i in
    (c.requires, scan_newline c.args.text.now c.args.at turn.i turn.invariant (omega arith) c.in-10.is)

pub ended-requires-2 : goal.ended-requires-2
ended-requires-2 c =
    let turn = c.loop-i in
    (c.requires, scan_out c.args.text.now c.args.at turn.i turn.invariant (omega arith))

pub loop-i-preserved : goal.loop-i-preserved
loop-i-preserved c =
    scan_other c.args.text.now c.args.at c.loop-i.i c.loop-i.invariant (omega arith) (λ e. omega arith) (λ e. omega arith)
