-- `pairs::read_plain` meets its contract.
use Prim.Native.Nat.{◌+◌, ◌-◌}
use mathlib.Core.Path.{sym, ◌∙◌}
use borrow.Author.Tests.{le-leb, lt-leb}
use Rattle.lists.proofs.Rest.{byte_in}
use Rattle.pairs.proofs.Closing.{value_unclosed, value_closed, value_size}
use Rattle.pairs.proofs.Reading.{mark}
use native.Mathlib.Omega.{arith}
use Rattle.pairs.proofs.read_plain.Goals as goal

pub overflow_add-start : goal.overflow_add-start
overflow_add-start c =
    omega (arith, byte_in c.args.line.now c.args.at 34 c.requires (omega arith))

pub close_of-close-requires : goal.close_of-close-requires
close_of-close-requires c =
    omega (arith, byte_in c.args.line.now c.args.at 34 c.requires (omega arith))

pub returns-then-line-end : goal.returns-then-line-end
returns-then-line-end c =
    let s = c.args.line.now in
    let a = c.args.at in
    let close = c.close_of-close in
    (sym (mark s a c.requires ∙ rw (value_unclosed s (a + 1) close.result close.ensures c.if-line-end.true)), tt)

pub returns-then-len-gt256 : goal.returns-then-len-gt256
returns-then-len-gt256 c =
    let s = c.args.line.now in
    let a = c.args.at in
    let close = c.close_of-close in
    let l = c.if-line-end.false in
    let size = value_size s (a + 1) close.result close.ensures l in (
      sym (mark s a c.requires
          ∙ rw (value_closed s (a + 1) close.result close.ensures l, ← size, lt-leb (close.result.end - (a + 1) - close.result.marks) 256 c.if-len-gt256.true)),
      tt,
    )

pub returns : goal.returns
returns c =
    let s = c.args.line.now in
    let a = c.args.at in
    let close = c.close_of-close in
    let l = c.if-line-end.false in
    let size = value_size s (a + 1) close.result close.ensures l in
    let closed = value_closed s (a + 1) close.result close.ensures l in (
      sym (mark s a c.requires ∙ rw (closed, ← size, le-leb (close.result.end - (a + 1) - close.result.marks) 256 c.if-len-gt256.false)),
      record { written = record { from = close.ensures.from; within = l; closed = closed }; size = size; short = c.if-len-gt256.false },
    )
