use Prim.Native.Nat.{ℕ, ◌+◌, ◌-◌, ◌≤◌}
use lib.ListN.{length, drop, get_or}
use mathlib.Core.Logic.{inl, inr}
use mathlib.Core.Path.{◌≡◌, sym, ◌∙◌}
use native.Mathlib.Omega.{arith}
use borrow.Author.Tests.{eqb-true, eqb-false}
use Rattle.lists.proofs.Moves.{ap_at}
use Rattle.entries.specs.Parse.{got, bad}
use Rattle.set_rows.proofs.Walk.{is_whole, turn-whole, turn-bad, end_whole, set-empty, set-above, set_below, set-begins}
use Rattle.set_rows.proofs.is_set.Goals as goal

pub returns-then-is_empty : goal.returns-then-is_empty
returns-then-is_empty g c =
    let none = eqb-true (length c.args.set.now) 0 (sym c.is_empty.ensures ∙ c.if-is_empty.true) in
    rw (set-empty g.E.Entry.one c.args.least c.args.most c.args.set.now (omega (arith, none)))

pub returns-then-count-least : goal.returns-then-count-least
returns-then-count-least g c =
    elim c.then-count-least.either [
      | inl l ↦ rw (set_below g.E.Entry.one c.args.least c.args.most c.args.set.now (omega (arith, l, c.count_of-count.ensures.0)))
      | inr l ↦ rw (set-above g.E.Entry.one c.args.least c.args.most c.args.set.now (omega (arith, l.1, c.count_of-count.ensures.0)))
    ]

pub loop-init : goal.loop-init
loop-init g c =
    let some : 1 ≤ length c.args.set.now = omega (arith, eqb-false (length c.args.set.now) 0 (sym c.is_empty.ensures ∙ c.if-is_empty.false)) in
    let counted = c.count_of-count.ensures.0 in (
      some,
      ap_at (λ (n : ℕ). is_whole g.E.Entry.one n (drop 1 c.args.set.now)) (c.count_of-count.result - 0) (get_or c.args.set.now 0 0) (omega (arith, counted))
          ∙ sym (set-begins g.E.Entry.one c.args.least c.args.most c.args.set.now some (omega (arith, counted, c.if-count-least.false)) (omega (arith, counted, c.if-most-count.false))),
    )

pub end_at-requires : goal.end_at-requires
end_at-requires g c = c.loop.invariant.0

pub returns-in_default : goal.returns-in_default
returns-in_default g c =
    let none : g.E.Entry.one (drop c.loop.p c.args.set.now) ≡ bad = c.in_default.ensures in
    sym (turn-bad g.E.Entry.one (c.count_of-count.result - c.loop.counter) (drop c.loop.p c.args.set.now) (omega (arith, c.loop-test.true)) none) ∙ c.loop.invariant.1

pub loop-preserved : goal.loop-preserved
loop-preserved g c =
    let left = c.count_of-count.result - c.loop.counter in
    let is : (c.in-Some.end ≤ length c.args.set.now) × (g.E.Entry.one (drop c.loop.p c.args.set.now) ≡ got tt (drop c.in-Some.end c.args.set.now)) = c.in-Some.ensures in (
      is.0,
      ap_at (λ n. is_whole g.E.Entry.one n (drop c.in-Some.end c.args.set.now)) (c.count_of-count.result - (c.loop.counter + 1)) (left - 1) (omega arith)
          ∙ sym (turn-whole g.E.Entry.one left (drop c.loop.p c.args.set.now) (drop c.in-Some.end c.args.set.now) tt (omega (arith, c.loop-test.true)) is.1)
          ∙ c.loop.invariant.1,
    )

pub returns : goal.returns
returns g c =
    sym (end_whole g.E.Entry.one c.args.set.now c.loop.p (c.count_of-count.result - c.loop.counter) (omega (arith, c.loop-test.false)) c.loop.invariant.0) ∙ c.loop.invariant.1
