use Prim.Native.Nat.{ℕ, ◌+◌, ◌-◌}
use mathlib.Core.Path.{◌≡◌}
use native.Mathlib.Omega.{arith}
use borrow.Author.Tests.{not-true}
use lib.ListN.{length}
use Rattle.scan.proofs.Groups.{lacks_both}
use Rattle.scan.proofs.lacks.Goals as goal

pub returns-then-s-at-lt8 : goal.returns-then-s-at-lt8
returns-then-s-at-lt8 c e = let z : ◌≡◌ {A = ℕ} 0 1 = cc e in absurd (omega arith)

pub loop-i-init : goal.loop-i-init
loop-i-init c = (omega arith, λ k h l. absurd (omega arith))

pub returns-then-in_group : goal.returns-then-in_group
returns-then-in_group c e = let z : ◌≡◌ {A = ℕ} 0 1 = cc e in absurd (omega arith)

pub loop-i-preserved : goal.loop-i-preserved
loop-i-preserved c =
    let args = c.args in
    let loop = c.loop-i in
    let group = c.in_group in
    (omega arith, lacks_both args.b args.s.now args.at loop.i loop.i (loop.i + 8) (omega arith) loop.invariant.1 (group.ensures.0 c.if-in_group.false))

pub returns : goal.returns
returns c e =
    let args = c.args in
    let loop = c.loop-i in
    let s = args.s.now in
    let h : length s - 8 + 8 ≡ length s = omega arith in
    lacks_both args.b s args.at loop.i (length s - 8) (length s) (omega arith) loop.invariant.1 (rw h at (c.in_group-2.ensures.0 (not-true _ e)))
