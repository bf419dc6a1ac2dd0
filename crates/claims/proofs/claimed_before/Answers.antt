use Prim.Native.Nat.{◌+◌, ◌-◌}
use lib.ListN.{take, drop}
use mathlib.Core.Bool.{Bool, ◌||◌}
use mathlib.Core.Path.{sym, ap, ◌∙◌}
use native.Mathlib.Omega.{arith}
use Rattle.claims.proofs.Turns.{next_stands, next-standing, any-turn}
use Rattle.claims.specs.Records.{states_in}
use Rattle.contest.specs.Contest.{claims}
use Rattle.lists.proofs.Moves.{ap_at}
use Rattle.lists.specs.Lists.{any}
use Rattle.claims.proofs.claimed_before.Goals as goal

pub loop-init : goal.loop-init
loop-init c = (c.requires.0, ap_at (λ m. any (claims c.args.name.now) (take m (states_in c.args.set.now))) (c.args.n - 0) c.args.n (omega arith))

pub claim_at-claim-requires : goal.claim_at-claim-requires
claim_at-claim-requires c = next_stands c.args.set.now c.loop.p c.loop.counter c.loop.invariant.0 (omega (arith, c.loop-test.true, c.requires.1))

pub returns-then-is_some : goal.returns-then-is_some
returns-then-is_some c =
    let i = c.loop.counter in
    let turned = any-turn c.args.set.now c.loop.p i c.loop.invariant.0 (omega (arith, c.loop-test.true, c.requires.1)) c.args.name.now c.claim_at-claim.result c.claim_at-claim.ensures c.args.n (omega (arith, c.loop-test.true)) in
    let others = any (claims c.args.name.now) (take (c.args.n - (i + 1)) (drop (i + 1) (states_in c.args.set.now))) in
    sym (turned ∙ ap (λ (t : Bool). t || others) (sym c.is_some.ensures ∙ c.if-is_some.true)) ∙ c.loop.invariant.1

pub loop-preserved : goal.loop-preserved
loop-preserved c =
    let i = c.loop.counter in
    let turned = any-turn c.args.set.now c.loop.p i c.loop.invariant.0 (omega (arith, c.loop-test.true, c.requires.1)) c.args.name.now c.claim_at-claim.result c.claim_at-claim.ensures c.args.n (omega (arith, c.loop-test.true)) in
    let others = any (claims c.args.name.now) (take (c.args.n - (i + 1)) (drop (i + 1) (states_in c.args.set.now))) in (
      next-standing c.args.set.now c.loop.p i c.loop.invariant.0 (omega (arith, c.loop-test.true, c.requires.1)) c.args.name.now c.claim_at-claim.result c.claim_at-claim.ensures,
      sym (turned ∙ ap (λ (t : Bool). t || others) (sym c.is_some.ensures ∙ c.if-is_some.false)) ∙ c.loop.invariant.1,
    )

pub returns : goal.returns
returns c =
    ap_at (λ m. any (claims c.args.name.now) (take m (drop c.loop.counter (states_in c.args.set.now)))) 0 (c.args.n - c.loop.counter) (omega (arith, c.loop-test.false)) ∙ c.loop.invariant.1
