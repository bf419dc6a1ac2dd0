use Prim.Native.Nat.{ℕ, ◌+◌, ◌-◌, ◌<◌}
use mathlib.Core.Path.{◌≡◌, refl, sym, ◌∙◌}
use native.Mathlib.Omega.{arith}
use lib.ListN.{drop}
use Rattle.match_values.proofs.Texts.{some-here, some_next}
use Rattle.engine.specs.Match.{some_matches}
use Rattle.rows.proofs.Turns.{row_first, row-turn}
use Rattle.rows.specs.declared.Kind.TheVariants.{Text}
use Rattle.rows.specs.Row.{names}
use Rattle.lists.proofs.Moves.{ap_at}
use Rattle.match_values.proofs.some_matches.Goals as goal

pub loop-init : goal.loop-init
loop-init c =
    let all : c.args.n - 0 ≡ c.args.n = omega arith in
    (c.requires.0, rw all c.requires.1, rw all refl)

pub parts_at-entry-requires : goal.parts_at-entry-requires
parts_at-entry-requires c =
    let left : ℕ = c.args.n - c.loop.counter in
    let more : 0 < left = omega arith in
    (c.loop.invariant.0, row_first Text left (drop c.loop.p c.args.rec.now) more c.loop.invariant.1)

pub text_matches-requires : goal.text_matches-requires
text_matches-requires c = c.requires.2

pub returns-then-text_matches : goal.returns-then-text_matches
returns-then-text_matches c =
    let x = c.args in
    let left : ℕ = x.n - c.loop.counter in
    let more : 0 < left = omega arith in
    sym (c.loop.invariant.2 ∙ some-here Text x.pattern.now x.rec.now c.loop.p left c.parts_at-entry.result c.parts_at-entry.ensures
    more (sym c.text_matches.ensures ∙ c.if-text_matches.true))

pub loop-preserved : goal.loop-preserved
loop-preserved c =
    let x = c.args in
    let left : ℕ = x.n - c.loop.counter in
    let more : 0 < left = omega arith in
    let fewer : x.n - (c.loop.counter + 1) ≡ left - 1 = omega arith in (
      c.parts_at-entry.ensures.within,
      rw fewer (row-turn Text x.rec.now c.loop.p left c.parts_at-entry.result c.parts_at-entry.ensures more c.loop.invariant.1),
      rw fewer
          (c.loop.invariant.2 ∙ some_next Text x.pattern.now x.rec.now c.loop.p left c.parts_at-entry.result c.parts_at-entry.ensures
          more (sym c.text_matches.ensures ∙ c.if-text_matches.false)),
    )

pub returns : goal.returns
returns c =
    let x = c.args in
    sym (c.loop.invariant.2 ∙ ap_at (λ i. some_matches x.pattern.now (names Text i (drop c.loop.p x.rec.now))) (x.n - c.loop.counter) 0 (omega arith))
