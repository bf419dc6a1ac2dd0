-- `strike::strike_lent` meets its contract.
use Rattle.left_lines.proofs.Leaves.{leaves-start}
use Rattle.lost_jumps.specs.Lost.{emptied}
use lib.ListN.{length}
use mathlib.Core.Path.{sym, ap, ◌∙◌}
use native.Mathlib.Omega.{arith}
use borrow.Author.Rules.{rules}
use Rattle.strike.proofs.strike_lent.Goals as goal

pub strike_jumps-requires : goal.strike_jumps-requires
strike_jumps-requires c =
    let a = c.args in
    (c.note_lines-noted.ensures.few, omega (arith, c.note_lines-noted.ensures.few, c.note_lines-noted.auto.labels, c.requires.5), omega (arith, c.note_lines-noted.ensures.few, c.note_lines-noted.auto.rules, c.requires.4), (_, (_, c.note_lines-noted.ensures.table)))

pub leave_lines-left-requires : goal.leave_lines-left-requires
leave_lines-left-requires c =
    let a = c.args in
    leaves-start a.text.now _ _ a.target.now c.note_lines-noted.result.used _ _ c.note_lines-noted.result.counts.rules c.requires.0 c.requires.1 c.note_lines-noted.ensures.within c.note_lines-noted.ensures.list
    (omega (arith, c.note_lines-noted.ensures.few, c.strike_jumps.auto.rules, c.note_lines-noted.auto.rules, c.requires.4)) (c.strike_jumps.ensures ∙ ap emptied (sym c.note_lines-noted.ensures.rules))

pub give_left-requires : goal.give_left-requires
give_left-requires c =
    (c.args.text.now, c.requires.0, c.leave_lines-left.ensures)

pub shape_of-values : goal.shape_of-values
shape_of-values c =
    c.note_lines-noted.auto.values

pub shape_of-rows : goal.shape_of-rows
shape_of-rows c =
    c.note_lines-noted.auto.rows

pub shape_of-rules : goal.shape_of-rules
shape_of-rules c =
    c.strike_jumps.auto.rules
    ∙ c.note_lines-noted.auto.rules

pub shape_of-labels : goal.shape_of-labels
shape_of-labels c =
    c.strike_jumps.auto.labels
    ∙ c.note_lines-noted.auto.labels

pub shape_of-list : goal.shape_of-list
shape_of-list c =
    c.give_left.auto.list
    ∙ c.leave_lines-left.auto.list
    ∙ c.note_lines-noted.auto.list

pub returns : goal.returns
returns c =
    let a = c.args in
    c.give_left.ensures a.text.now (length a.target.now) (length a.list.now) c.requires.0 c.requires.1 c.requires.2 c.leave_lines-left.auto.target
    (c.leave_lines-left.auto.list ∙ c.note_lines-noted.auto.list) c.leave_lines-left.ensures
