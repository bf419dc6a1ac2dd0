use mathlib.Core.Path.{sym, ◌∙◌}
use native.Mathlib.Omega.{arith}
use Rattle.pairs.proofs.Unescaping.{put-begins, put-escape, put_room, put_byte, put-ends}
use Rattle.pairs.proofs.unescape_into.Goals as goal

pub loop-i-init : goal.loop-i-init
loop-i-init c = put-begins c.args.line.now c.args.start c.args.end c.args.out.now c.requires.1 c.requires.2 c.requires.0

pub loop-i-preserved-then-is_escape : goal.loop-i-preserved-then-is_escape
loop-i-preserved-then-is_escape c =
    let x = c.args in
    put-escape x.line.now x.start x.end x.out.now c.requires.1 c.requires.2 c.loop-i.out
    c.loop-i.i c.loop-i.n c.loop-i.invariant (omega arith) (sym c.is_escape.ensures ∙ c.if-is_escape.true)

pub bounds-out-n : goal.bounds-out-n
bounds-out-n c =
    let x = c.args in
    put_room x.line.now x.start x.end x.out.now c.requires.1 c.requires.2 c.loop-i.out
    c.loop-i.i c.loop-i.n c.loop-i.invariant (omega arith)
    (sym c.is_escape.ensures ∙ c.if-is_escape.false)

pub overflow_add-n : goal.overflow_add-n
overflow_add-n c =
    let x = c.args in
    omega (
      arith,
      put_room x.line.now x.start x.end x.out.now c.requires.1 c.requires.2 c.loop-i.out
          c.loop-i.i c.loop-i.n c.loop-i.invariant (omega arith)
          (sym c.is_escape.ensures ∙ c.if-is_escape.false),
    )

pub loop-i-preserved : goal.loop-i-preserved
loop-i-preserved c =
    let x = c.args in
    put_byte x.line.now x.start x.end x.out.now c.requires.1 c.requires.2 c.loop-i.out
    c.loop-i.i c.loop-i.n c.loop-i.invariant (omega arith)
    (sym c.is_escape.ensures ∙ c.if-is_escape.false)

pub shape_of-out : goal.shape_of-out
shape_of-out c = c.loop-i.invariant.kept

pub returns : goal.returns
returns c =
    let x = c.args in
    put-ends x.line.now x.start x.end x.out.now c.requires.1 c.requires.2 c.loop-i.out c.loop-i.i c.loop-i.n c.loop-i.invariant (omega arith)
