use Prim.Native.Nat.{ℕ, ◌+◌, ◌-◌, ◌<◌}
use mathlib.Core.Path.{sym, ◌∙◌}
use mathlib.Core.Bool.{true, false}
use native.Mathlib.Omega.{arith}
use lib.ListN.{length}
use Rattle.lines.proofs.Walk.{Walk, run-within, walk_comment, walk_first, walk_ends, walk_open, walk_on}
use Rattle.lines.proofs.joined_end.Goals as goal

pub returns-then-byte_at-eq35 : goal.returns-then-byte_at-eq35
returns-then-byte_at-eq35 c =
    let text = c.args.text.now in
    let at = c.args.at in
    let end = c.line_end-end in
    let first = c.blank_end-first in
    let w = walk_comment text at end.result c.requires end.ensures first.result first.ensures.place (sym c.byte_at.ensures ∙ c.if-byte_at-eq35.true) in
    (walk_ends text at end.result 0 w, w.count, w.slash-is)

pub ends_in_slash-slash-requires : goal.ends_in_slash-slash-requires
ends_in_slash-slash-requires c =
    let end = c.line_end-end in
    (end.ensures.from, run-within c.args.text.now c.args.at end.result c.requires end.ensures)

pub loop-slash-init : goal.loop-slash-init
loop-slash-init c =
    let end = c.line_end-end in
    let first = c.blank_end-first in (
      omega arith,
      walk_first c.args.text.now c.args.at end.result c.requires end.ensures first.result first.ensures.place
          (λ e. c.if-byte_at-eq35.false (c.byte_at.ensures ∙ e)) c.ends_in_slash-slash.result c.ends_in_slash-slash.ensures,
    )

pub overflow_sub-last : goal.overflow_sub-last
overflow_sub-last c = c.loop-slash.invariant.1.within

pub returns-then-last : goal.returns-then-last
returns-then-last c =
    let a = c.args in
    let turn = c.loop-slash in
    let w : Walk a.text.now a.at turn.end true turn.newlines = rw c.loop-slash-test.true at turn.invariant.1 in
    (walk_open a.text.now a.at turn.end turn.newlines w (omega (arith, c.if-last.true)), w.count, w.slash-is)

pub ends_in_slash-slash-requires-in-loop-slash : goal.ends_in_slash-slash-requires-in-loop-slash
ends_in_slash-slash-requires-in-loop-slash c =
    let turn = c.loop-slash in
    let end = c.line_end-end-in-loop-slash in
    (end.ensures.from, run-within c.args.text.now (turn.end + 1) end.result (omega (arith, c.if-last.false)) end.ensures)

pub overflow_add-newlines : goal.overflow_add-newlines
overflow_add-newlines c = omega (arith, c.loop-slash.invariant.0, c.loop-slash.invariant.1.within)

pub loop-slash-smaller : goal.loop-slash-smaller
loop-slash-smaller c = omega (arith, c.if-last.false, c.line_end-end-in-loop-slash.ensures.from)

pub loop-slash-preserved : goal.loop-slash-preserved
loop-slash-preserved c =
    let text = c.args.text.now in
    let at = c.args.at in
    let turn = c.loop-slash in
    let end = c.line_end-end-in-loop-slash in
    let w : Walk text at turn.end true turn.newlines = rw c.loop-slash-test.true at turn.invariant.1 in
    let l : 1 < length text - turn.end = omega arith in (
      omega (arith, turn.invariant.0, end.ensures.from),
      walk_on text at turn.end turn.newlines w l end.result end.ensures c.ends_in_slash-slash-in-loop-slash.result c.ends_in_slash-slash-in-loop-slash.ensures,
    )

pub returns : goal.returns
returns c =
    let turn = c.loop-slash in
    let w : Walk c.args.text.now c.args.at turn.end false turn.newlines = rw c.loop-slash-test.false at turn.invariant.1 in
    (walk_ends c.args.text.now c.args.at turn.end turn.newlines w, w.count, w.slash-is)
