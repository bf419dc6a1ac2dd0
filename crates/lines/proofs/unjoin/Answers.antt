use Prim.Native.Nat.{◌-◌}
use mathlib.Core.Path.{sym, ◌∙◌}
use mathlib.Core.Logic.{inl, inr}
use native.Mathlib.Omega.{arith}
use Rattle.lines.proofs.Copy.{copy-begins, copy-gone, copy_nul, copy-long, copy-byte, copy-ends}
use Rattle.lines.proofs.unjoin.Goals.{then-b-eq0-via-then-b-eq0, then-b-eq0-via-else-b-eq0+then-n-ge1024}
use Rattle.lines.proofs.unjoin.Goals as goal

pub loop-i-init : goal.loop-i-init
loop-i-init c =
    copy-begins c.args.text.now c.args.at c.args.end c.args.line.now c.requires.0 c.requires.2

pub loop-i-preserved-then-is_gone : goal.loop-i-preserved-then-is_gone
loop-i-preserved-then-is_gone c =
    let turn = c.loop-i in
    copy-gone c.args.text.now c.args.at c.args.end turn.i turn.n turn.line turn.invariant (omega arith) c.requires.1 (sym c.is_gone.ensures ∙ c.if-is_gone.true)

pub shape_of-line-then-b-eq0 : goal.shape_of-line-then-b-eq0
shape_of-line-then-b-eq0 c = c.loop-i.invariant.size ∙ sym c.requires.2

pub returns-then-b-eq0 : goal.returns-then-b-eq0
returns-then-b-eq0 c =
    let turn = c.loop-i in
    let g = sym c.is_gone.ensures ∙ c.if-is_gone.false in
    elim c.then-b-eq0.branch [
      | then-b-eq0-via-then-b-eq0 w ↦ inr (copy_nul c.args.text.now c.args.at c.args.end turn.i turn.n turn.line turn.invariant (omega arith) c.requires.1 g w.if-b-eq0.true)
      | then-b-eq0-via-else-b-eq0+then-n-ge1024 w ↦ inl (copy-long c.args.text.now c.args.at c.args.end turn.i turn.n turn.line turn.invariant (omega arith) c.requires.1 g w.if-n-ge1024.true)
    ]

pub bounds-line-n : goal.bounds-line-n
bounds-line-n c = omega (arith, c.loop-i.invariant.size)

pub loop-i-preserved : goal.loop-i-preserved
loop-i-preserved c =
    let turn = c.loop-i in
    let g = sym c.is_gone.ensures ∙ c.if-is_gone.false in
    copy-byte c.args.text.now c.args.at c.args.end turn.i turn.n turn.line turn.invariant (omega arith) c.requires.1 g (omega arith) c.if-b-eq0.false

pub shape_of-line : goal.shape_of-line
shape_of-line c = c.loop-i.invariant.size ∙ sym c.requires.2

pub returns : goal.returns
returns c =
    let turn = c.loop-i in
    let e = copy-ends c.args.text.now c.args.at c.args.end turn.i turn.n turn.line turn.invariant (omega arith) in
    (turn.invariant.few, e, rw e at turn.invariant.clean)
