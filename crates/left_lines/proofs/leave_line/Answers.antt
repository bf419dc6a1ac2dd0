-- `left_lines::leave_line` meets its contract.
use Rattle.left_lines.proofs.Leaves.{note_here, put_room, strike_room, fault-fits, line-left}
use Rattle.left_lines.proofs.Lines.{bytes-size}
use native.Mathlib.Omega.{arith}
use borrow.Author.Rules.{rules}
use Rattle.left_lines.proofs.leave_line.Goals as goal

pub fate_of-fate-requires : goal.fate_of-fate-requires
fate_of-fate-requires c =
    let a = c.args in (
      c.requires.1.counts,
      note_here a.text.now a.rules.now a.list.now a.target.now a.end a.left c.requires.1 c.requires.0 c.extent_of-line.result.end c.extent_of-line.result.newlines c.extent_of-line.ensures.0
          c.extent_of-line.ensures.1,
    )

pub put_left-used-requires : goal.put_left-used-requires
put_left-used-requires c =
    let a = c.args in
    let b = bytes-size a.text.now a.left.at c.extent_of-line.result.end c.extent_of-line.result.newlines c.requires.0 c.extent_of-line.ensures.0 c.extent_of-line.ensures.1 0 in (
      b.0,
      b.1,
      b.2,
      put_room a.text.now a.rules.now a.list.now a.target.now a.end a.left c.requires.1 c.requires.0 c.extent_of-line.result.end c.extent_of-line.result.newlines c.extent_of-line.ensures.0
          c.extent_of-line.ensures.1 c.fate_of-fate.result c.fate_of-fate.ensures,
    )

pub put_strike-listed-requires : goal.put_strike-listed-requires
put_strike-listed-requires c =
    let a = c.args in
    let leaves = c.requires.1 in (
      strike_room a.text.now a.rules.now a.list.now a.target.now a.end a.left c.requires.1 c.requires.0 c.extent_of-line.result.end c.extent_of-line.result.newlines c.extent_of-line.ensures.0
          c.extent_of-line.ensures.1 c.fate_of-fate.result c.fate_of-fate.ensures,
      omega (arith, c.requires.0, leaves.short, leaves.number_at),
      fault-fits a.text.now a.rules.now a.list.now a.target.now a.end a.left c.requires.1 c.requires.0 c.extent_of-line.result.end c.extent_of-line.result.newlines c.extent_of-line.ensures.0
          c.extent_of-line.ensures.1 c.fate_of-fate.result c.fate_of-fate.ensures,
    )

pub overflow_add-result : goal.overflow_add-result
overflow_add-result c =
    let a = c.args in
    let b = bytes-size a.text.now a.left.at c.extent_of-line.result.end c.extent_of-line.result.newlines c.requires.0 c.extent_of-line.ensures.0 c.extent_of-line.ensures.1 0 in
    omega (arith, b.1, c.requires.1.short)

pub overflow_add-result-2 : goal.overflow_add-result-2
overflow_add-result-2 c =
    let a = c.args in
    let b = bytes-size a.text.now a.left.at c.extent_of-line.result.end c.extent_of-line.result.newlines c.requires.0 c.extent_of-line.ensures.0 c.extent_of-line.ensures.1 0 in
    omega (arith, b.0, b.1, b.2, c.requires.1.short, c.requires.1.number_at)

pub overflow_add-result-3 : goal.overflow_add-result-3
overflow_add-result-3 c =
    let a = c.args in
    let b = bytes-size a.text.now a.left.at c.extent_of-line.result.end c.extent_of-line.result.newlines c.requires.0 c.extent_of-line.ensures.0 c.extent_of-line.ensures.1 0 in
    omega (arith, b.0, b.1, b.2, c.requires.1.short, c.requires.1.number_at)

pub returns : goal.returns
returns c =
    let a = c.args in
    line-left a.text.now a.rules.now a.list.now a.target.now a.end a.left c.requires.1 c.requires.0 c.extent_of-line.result.end c.extent_of-line.result.newlines c.extent_of-line.ensures.0
    c.extent_of-line.ensures.1 c.fate_of-fate.result c.fate_of-fate.ensures _ _ _ _ c.put_left-used.ensures.0 c.put_left-used.ensures.1 c.put_strike-listed.ensures
