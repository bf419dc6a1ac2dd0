-- `write::write_table` meets its contract.
use mathlib.Core.Path.{sym, ap, ◌∙◌}
use native.Mathlib.Omega.{arith}
use borrow.Author.Rules.{rules}
use lib.ListN.{length, replicate}
use Rattle.lists.proofs.Moves.{ap_at, length_part}
use Rattle.write.proofs.Laws.{write-long, write-made, cleared_behind}
use Rattle.writing.specs.Writing.{written}
use Rattle.table.specs.Table.{rules_from}
use Rattle.answers.specs.Answers.{answered}
use Rattle.write.proofs.write_table.Goals as goal

pub slice_bounds-clear-count : goal.slice_bounds-clear-count
slice_bounds-clear-count c = omega (arith, c.in-Some.ensures.0.room, c.put_rules.auto.out)

pub slice_bounds-clear-start : goal.slice_bounds-clear-start
slice_bounds-clear-start c = omega (arith, c.in-Some.ensures.0.room, c.put_rules.auto.out)

pub accepted-requires : goal.accepted-requires
accepted-requires c = (omega arith, omega arith, omega (arith, c.in-Some.ensures.1))

pub returns-in-Some : goal.returns-in-Some
returns-in-Some c = λ text e.
    let a = c.args in
    let room = length a.target.now in
    let is = c.in-Some.ensures in
    ap (answered c.accepted.result) (cleared_behind _ a.target.now _ c.put_rules.new.out _ _ is.0 c.clear.ensures (length_part c.put_rules.new.out _ (length c.put_rules.new.out) (omega arith)))
    ∙ c.accepted.ensures room (written (rules_from a.values.now a.rows.now a.rules.now 0 a.count)) (is.0.end ∙ omega arith)
    ∙ sym (write-made text room c.requires.0 _ e (omega (arith, is.0.end, is.1)))

pub returns-in-None : goal.returns-in-None
returns-in-None c = λ text e.
    let a = c.args in
    let room = length a.target.now in
    let zeros = c.clear-in-None.ensures ∙ ap_at (λ n. replicate n 0) (length c.put_rules.new.out) room (omega (arith, c.put_rules.auto.out)) in
    ap (answered c.refused.result) zeros ∙ c.refused.ensures room ∙ sym (write-long text room c.requires.0 _ e c.in-None.ensures)
