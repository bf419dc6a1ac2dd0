use Prim.Native.Nat.{◌+◌, ◌-◌}
use mathlib.Core.List.{[], ◌∷◌, ◌++◌}
use native.Mathlib.Omega.{arith}
use lib.ListN.{length-append}
use Rattle.lists.proofs.Moves.{ap_at}
use Rattle.rule_writing.proofs.Parts.{written-here, written-end}
use Rattle.rule_writing.proofs.Writes.{Writes, writes-from, writes_as, writes_more, writes_end, writes-size, writes_kept}
use Rattle.writing.specs.Writing.{line_text, written}
use Rattle.table.specs.Table.{pairs_from, rules_from}
use Rattle.rule_writing.proofs.put_rules.Goals.{After-put_rule-end}
use Rattle.rule_writing.proofs.put_rules.Goals as goal

lined : (c : After-put_rule-end) → let a = c.args in Writes (written (rules_from a.values.now a.rows.now a.rules.now 0 a.count)) a.out.now 0
    ((10 ∷ []) ++ written (rules_from a.values.now a.rows.now a.rules.now (c.loop-i.i + 1) (a.count - (c.loop-i.i + 1)))) c.put_rule-end.new.out c.put_rule-end.result
lined c =
    let a = c.args in
    let here = written-here a.values.now a.rows.now a.rules.now c.loop-i.i a.count c.loop-i-test.true _ _ c.number_at-from.ensures.0 c.number_at-to.ensures.0 in
    writes_more _ _ (writes_as here c.loop-i.invariant.2) c.put_rule-end.ensures

pub loop-i-init : goal.loop-i-init
loop-i-init c =
    let a = c.args in
    (omega arith, omega arith, writes-from (ap_at (λ n. written (rules_from a.values.now a.rows.now a.rules.now 0 n)) (a.count - 0) a.count (omega arith)) (omega arith))

pub overflow_mul-i : goal.overflow_mul-i
overflow_mul-i c = omega (arith, c.requires.1.room)

pub overflow_add-i : goal.overflow_add-i
overflow_add-i c = omega (arith, c.requires.1.room)

pub number_at-from-requires : goal.number_at-from-requires
number_at-from-requires c = omega (arith, c.requires.1.room)

pub overflow_mul-i-in-loop-i : goal.overflow_mul-i-in-loop-i
overflow_mul-i-in-loop-i c = omega (arith, c.requires.1.room)

pub overflow_add-i-in-loop-i : goal.overflow_add-i-in-loop-i
overflow_add-i-in-loop-i c = omega (arith, c.requires.1.room)

pub number_at-to-requires : goal.number_at-to-requires
number_at-to-requires c = omega (arith, c.requires.1.room)

pub put_rule-end-requires : goal.put_rule-end-requires
put_rule-end-requires c =
    let a = c.args in
    let v = a.values.now in
    let r = a.rows.now in
    let t = a.rules.now in
    let line = line_text (pairs_from v r c.number_at-from.result (c.number_at-to.result - c.number_at-from.result)) in
    let rest = written (rules_from v r t (c.loop-i.i + 1) (a.count - (c.loop-i.i + 1))) in
    let here = writes_as (written-here v r t c.loop-i.i a.count c.loop-i-test.true _ _ c.number_at-from.ensures.0 c.number_at-to.ensures.0) c.loop-i.invariant.2 in
    (rw (c.number_at-from.ensures.0, c.number_at-to.ensures.0) (c.requires.1.ordered c.loop-i.i c.loop-i-test.true), rw c.number_at-to.ensures.0 (c.requires.1.rows c.loop-i.i c.loop-i-test.true), omega (arith, c.requires.0, c.requires.2, writes-size here, writes_kept here, length-append line ((10 ∷ []) ++ rest)))

pub shape_of-out-then-end-eq32768 : goal.shape_of-out-then-end-eq32768
shape_of-out-then-end-eq32768 c = writes_kept (lined (goal.at.shape_of-out-then-end-eq32768 c).After-put_rule-end)

pub returns-then-end-eq32768 : goal.returns-then-end-eq32768
returns-then-end-eq32768 c = omega (arith, c.if-end-eq32768.true, writes-size (lined (goal.at.returns-then-end-eq32768 c).After-put_rule-end))

pub put_one-used-requires : goal.put_one-used-requires
put_one-used-requires c =
    let left = lined (goal.at.put_one-used-requires c).After-put_rule-end in
    omega (arith, c.if-end-eq32768.false, c.requires.0, c.requires.2, writes-size left, writes_kept left)

pub loop-i-preserved : goal.loop-i-preserved
loop-i-preserved c =
    let left = lined (goal.at.loop-i-preserved c).After-put_rule-end in
    (omega arith, omega (arith, c.if-end-eq32768.false, c.requires.2, writes-size left, c.put_one-used.ensures.end), writes_more (10 ∷ []) _ left c.put_one-used.ensures)

pub shape_of-out : goal.shape_of-out
shape_of-out c = writes_kept c.loop-i.invariant.2

pub returns : goal.returns
returns c =
    let a = c.args in
    (writes_end (writes_as (written-end a.values.now a.rows.now a.rules.now c.loop-i.i a.count (omega arith)) c.loop-i.invariant.2), c.loop-i.invariant.1)
