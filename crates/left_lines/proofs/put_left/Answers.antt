-- `left_lines::put_left` meets its contract.
use Rattle.left_lines.proofs.Lines.{next-within, put-kept, put-struck}
use Rattle.lists.proofs.Moves.{length_part}
use native.Mathlib.Omega.{arith}
use Rattle.left_lines.proofs.put_left.Goals as goal

pub slice_bounds-store-count : goal.slice_bounds-store-count
slice_bounds-store-count c =
    let a = c.args in
    let b = next-within a.text.now a.line.end c.requires.1 in
    omega (arith, c.next_of-next.ensures, b.0, c.requires.0)

pub slice_bounds-store-start : goal.slice_bounds-store-start
slice_bounds-store-start c =
    let a = c.args in
    let b = next-within a.text.now a.line.end c.requires.1 in
    omega (arith, c.next_of-next.ensures, b.0, c.requires.0)

pub slice_bounds-store-end : goal.slice_bounds-store-end
slice_bounds-store-end c =
    let a = c.args in
    let b = next-within a.text.now a.line.end c.requires.1 in
    omega (arith, c.next_of-next.ensures, b.1)

pub store-requires : goal.store-requires
store-requires c =
    let a = c.args in
    let b = next-within a.text.now a.line.end c.requires.1 in
    omega (arith, c.next_of-next.ensures, b.1, c.requires.3, length_part a.text.now a.at c.next_of-next.result (omega (arith, c.next_of-next.ensures, b.1)))

pub overflow_sub-result : goal.overflow_sub-result
overflow_sub-result c =
    let a = c.args in
    let b = next-within a.text.now a.line.end c.requires.1 in
    omega (arith, c.next_of-next.ensures, b.0, c.requires.0)

pub returns-then-fault-eq0 : goal.returns-then-fault-eq0
returns-then-fault-eq0 c =
    let a = c.args in
    let b = next-within a.text.now a.line.end c.requires.1 in
    put-kept a.text.now a.target.now _ a.at a.line.end a.line.newlines a.fault a.used c.next_of-next.result c.requires.1 c.next_of-next.ensures c.if-fault-eq0.true
    (omega (arith, c.next_of-next.ensures, c.requires.3)) c.store.ensures

pub overflow_sub-n : goal.overflow_sub-n
overflow_sub-n c =
    let a = c.args in
    let b = next-within a.text.now a.line.end c.requires.1 in
    omega (arith, c.next_of-next.ensures, b.0)

pub put_newlines-requires : goal.put_newlines-requires
put_newlines-requires c =
    let a = c.args in
    let b = next-within a.text.now a.line.end c.requires.1 in
    omega (arith, c.next_of-next.ensures, b.0, c.requires.0, c.requires.2, c.requires.3)

pub returns : goal.returns
returns c =
    let a = c.args in
    put-struck a.text.now a.target.now _ a.at a.line.end a.line.newlines a.fault a.used c.next_of-next.result c.requires.1 c.next_of-next.ensures c.if-fault-eq0.false c.put_newlines.ensures
