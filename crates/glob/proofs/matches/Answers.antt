use Prim.Native.Nat.{◌-◌}
use mathlib.Core.Path.{refl, sym, ◌∙◌}
use native.Mathlib.Omega.{arith}
use Rattle.glob.proofs.Alternatives.{any_here, any-behind, any_none}
use Rattle.pattern.specs.Pattern.{matches}
use Rattle.glob.proofs.matches.Goals as goal

pub loop-at-init : goal.loop-at-init
unfolding matches
loop-at-init c = (omega arith, refl)

pub matches_from-requires : goal.matches_from-requires
matches_from-requires c = (c.loop-at.invariant.0, omega arith)

pub returns-then-matches_from : goal.returns-then-matches_from
returns-then-matches_from c =
    let args = c.args in
    let loop = c.loop-at in
    sym (any_here args.pattern.now loop.at args.value.now (sym c.matches_from.ensures ∙ c.if-matches_from.true)) ∙ loop.invariant.1

pub returns-then-pattern-bar : goal.returns-then-pattern-bar
returns-then-pattern-bar c =
    let args = c.args in
    let loop = c.loop-at in
    sym (any_none args.pattern.now loop.at args.value.now c.byte_end_seldom-bar.result c.byte_end_seldom-bar.ensures (sym c.matches_from.ensures ∙ c.if-matches_from.false) c.if-pattern-bar.true) ∙ loop.invariant.1

pub loop-at-smaller : goal.loop-at-smaller
loop-at-smaller c = omega (arith, c.byte_end_seldom-bar.ensures.from)

pub loop-at-preserved : goal.loop-at-preserved
loop-at-preserved c =
    let args = c.args in
    let loop = c.loop-at in
    (omega arith, sym (any-behind args.pattern.now loop.at args.value.now c.byte_end_seldom-bar.result c.byte_end_seldom-bar.ensures (sym c.matches_from.ensures ∙ c.if-matches_from.false) c.if-pattern-bar.false) ∙ loop.invariant.1)
