use Prim.Native.Nat.{ℕ, ◌-◌}
use mathlib.Core.Path.{ap₂, ◌∙◌, subst}
use native.Mathlib.Omega.{arith}
use borrow.Author.Rules.{rules}
use Rattle.action_rows.specs.Actions.{action_in, ActionsPut}
use Rattle.action_rows.proofs.Notes.{noted-start, noted-next}
use Rattle.action_rows.proofs.put_actions.Goals as goal

pub loop-i-init : goal.loop-i-init
loop-i-init c = (omega arith, noted-start c.args.rows.now c.args.rules.now)

pub overflow_mul-i : goal.overflow_mul-i
overflow_mul-i c = omega (arith, c.loop-i-test.true, c.requires.0)

pub overflow_add-i : goal.overflow_add-i
overflow_add-i c = omega (arith, c.loop-i-test.true, c.requires.0)

pub number_at-from-requires : goal.number_at-from-requires
number_at-from-requires c = omega (arith, c.loop-i-test.true, c.requires.1, c.loop-i.invariant.1.size)

pub overflow_mul-i-in-loop-i : goal.overflow_mul-i-in-loop-i
overflow_mul-i-in-loop-i c = omega (arith, c.loop-i-test.true, c.requires.0)

pub overflow_add-i-in-loop-i : goal.overflow_add-i-in-loop-i
overflow_add-i-in-loop-i c = omega (arith, c.loop-i-test.true, c.requires.0)

pub number_at-to-requires : goal.number_at-to-requires
number_at-to-requires c = omega (arith, c.loop-i-test.true, c.requires.1, c.loop-i.invariant.1.size)

pub action_in-action-requires : goal.action_in-action-requires
action_in-action-requires c =
    let loop = c.loop-i in
    let put = loop.invariant.1 in
    let from = c.number_at-from in
    let to = c.number_at-to in
    let within = c.requires.2 loop.i c.loop-i-test.true in (
      omega (arith, from.ensures.0, put.from loop.i, to.ensures.0, put.to loop.i, within.0),
      to.ensures.1,
      omega (arith, to.ensures.0, put.to loop.i, within.1),
    )

pub mark-requires : goal.mark-requires
mark-requires c = omega (arith, c.action_in-action.ensures.1, c.number_at-to.ensures.1)

pub overflow_mul-rules : goal.overflow_mul-rules
overflow_mul-rules c = omega (arith, c.loop-i-test.true, c.requires.0)

pub overflow_add-rules : goal.overflow_add-rules
overflow_add-rules c = omega (arith, c.loop-i-test.true, c.requires.0)

pub offset_bounds-rules-i : goal.offset_bounds-rules-i
offset_bounds-rules-i c = omega (arith, c.loop-i-test.true, c.requires.0)

pub bounds-rules-i : goal.bounds-rules-i
bounds-rules-i c = omega (arith, c.loop-i-test.true, c.requires.1, c.loop-i.invariant.1.size)

pub loop-i-preserved : goal.loop-i-preserved
loop-i-preserved c =
    let entry = c in
    let x = entry.args in
    let loop = c.loop-i in
    let put = loop.invariant.1 in
    let from = c.number_at-from.ensures.0 ∙ put.from loop.i in
    let to = c.number_at-to.ensures.0 ∙ put.to loop.i in
    let action = c.mark.ensures ∙ c.action_in-action.ensures.0 ∙ ap₂ (λ (a b : ℕ). action_in x.rows.now a (b - a)) from to in (
      omega (arith, c.loop-i-test.true),
      noted-next x.rows.now x.rules.now loop.rules loop.i put (omega (arith, c.loop-i-test.true, entry.requires.1)) _ action,
    )

pub shape_of-rules : goal.shape_of-rules
shape_of-rules c = c.loop-i.invariant.1.size

pub returns : goal.returns
returns c =
    let x = c.args in
    let loop = c.loop-i in
    subst (ActionsPut x.rows.now x.rules.now loop.rules) (omega (arith, loop.invariant.0, c.loop-i-test.false)) loop.invariant.1
