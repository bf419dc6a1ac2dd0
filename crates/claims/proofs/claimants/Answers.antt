use Prim.Native.Nat.{◌+◌}
use lib.IntN.{ℤ}
use lib.ListN.{length, length-set}
use mathlib.Core.Path.{◌≡◌, refl, ap, ◌∙◌}
use borrow.Author.Rules.{rules}
use mir.Facts.{to_z-of_z}
use mir.Syntax.{w32}
use native.Mathlib.Omega.{arith}
use Rattle.std.specs.Option.{is_some}
use Rattle.claims.proofs.Turns.{next_stands, seen_as, seen_first, seen-made, seen_missed, seen_all}
use Rattle.claims.specs.Claims.{as_claimant}
use Rattle.contest.specs.Contest as contest
use Rattle.contest.specs.Contest.{higher as higher_claimant}
use Rattle.claims.proofs.claimants.Goals.{in-Some, in_default}
use Rattle.claims.proofs.claimants.Goals as goal

pub byte-requires : goal.byte-requires
byte-requires c =
    let pre = c.requires in
    omega (arith, pre.1, pre.4)

pub bounds-list-0 : goal.bounds-list-0
bounds-list-0 c =
    let pre = c.requires in
    omega (arith, pre.2)

pub loop-i-init : goal.loop-i-init
loop-i-init c =
    let entry = c.args in
    let byte = c.byte in
    let pre = c.requires in
    (seen_first entry.set.now entry.name.now (as_claimant entry.first) entry.n entry.list.now _ entry.p byte.result pre.3 pre.4 pre.5 (omega (arith, pre.2)) byte.ensures refl, simp length-set)

pub claim_at-claim-requires : goal.claim_at-claim-requires
claim_at-claim-requires c =
    let entry = c.args in
    let loop = c.loop-i in
    let loop-test = c.loop-i-test in
    let pre = c.requires in
    next_stands entry.set.now loop.q loop.i loop.invariant.0.standing (omega (arith, loop-test.true, pre.0))

pub byte-requires-in-Some : goal.byte-requires-in-Some
byte-requires-in-Some c =
    let pre = c.requires in
    let loop-test = c.loop-i-test in
    omega (arith, pre.1, loop-test.true)

pub bounds-list-count : goal.bounds-list-count
bounds-list-count c =
    let loop = c.loop-i in
    let entry = c.args in
    let byte = c.byte in
    let loop-test = c.loop-i-test in
    let pre = c.requires in
    let sized : length loop.list ≡ length entry.list.now = loop.invariant.1 ∙ length-set entry.list.now 0 byte.result in
    omega (arith, loop.invariant.0.few, sized, loop-test.true, pre.1, pre.2)

pub loop-i-preserved : goal.loop-i-preserved
loop-i-preserved c =
    let a = c.args in
    let loop = c.loop-i in
    let claim = c.claim_at-claim in
    let sized : length loop.list ≡ length a.list.now = loop.invariant.1 ∙ length-set a.list.now 0 c.byte.result in
    elim c.match-claim.branch [
      | in-Some w ↦
          let priority = to_z-of_z {w = w32} {z = w.in-Some.priority} (search rules) in (
            seen_as refl refl w.count-is
                (seen-made a.set.now a.name.now (as_claimant a.first) a.n loop.list (as_claimant loop.top) loop.q loop.i loop.count
                loop.invariant.0 (omega (arith, c.loop-i-test.true, c.requires.0)) (omega (arith, c.loop-i-test.true)) claim.result claim.ensures _
                w.byte-in-Some.result (as_claimant c.match-claim.top) w.in-Some.priority w.in-Some.is
                (omega (arith, loop.invariant.0.few, sized, c.loop-i-test.true, c.requires.1, c.requires.2)) w.byte-in-Some.ensures w.list-is
                (ap as_claimant w.top-is ∙ w.higher-top.ensures ∙ ap (λ (z : ℤ). higher_claimant (as_claimant loop.top) (record { position = loop.i + 1; priority = z })) priority)),
            ap length w.list-is ∙ length-set loop.list loop.count w.byte-in-Some.result ∙ loop.invariant.1,
          )
      | in_default w ↦ (
        seen_as w.list-is (ap as_claimant w.top-is) w.count-is
            (seen_missed a.set.now a.name.now (as_claimant a.first) a.n loop.list (as_claimant loop.top) loop.q loop.i loop.count
            loop.invariant.0 (omega (arith, c.loop-i-test.true, c.requires.0)) (omega (arith, c.loop-i-test.true)) claim.result claim.ensures (ap is_some w.in_default.is)),
        ap length w.list-is ∙ loop.invariant.1,
      )
    ]

pub shape_of-list : goal.shape_of-list
shape_of-list c =
    let loop = c.loop-i in
    let entry = c.args in
    let byte = c.byte in
    let sized : length loop.list ≡ length entry.list.now = loop.invariant.1 ∙ length-set entry.list.now 0 byte.result in
    sized

pub returns : goal.returns
returns c =
    let entry = c.args in
    let loop = c.loop-i in
    let loop-test = c.loop-i-test in
    let pre = c.requires in
    let (top, claimed) = seen_all entry.set.now entry.name.now (as_claimant entry.first) entry.n loop.list (as_claimant loop.top) loop.q loop.i loop.count loop.invariant.0 (omega (arith, loop-test.false, pre.0)) in
    record { holder = ap (λ (c : contest.Claimant). c.position) top; claimed = claimed; few = omega (arith, loop.invariant.0.few, loop.invariant.0.upto, pre.1); low = omega (arith, loop.invariant.0.low, loop.invariant.0.upto, pre.1) }
