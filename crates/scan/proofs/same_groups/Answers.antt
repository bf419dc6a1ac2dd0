use Prim.Native.Nat.{◌+◌, ◌-◌}
use mathlib.Core.Path.{refl, sym, ◌∙◌}
use native.Mathlib.Omega.{arith}
use borrow.Author.Tests.{not-false, not-true}
use lib.ListN.{length}
use Rattle.scan.proofs.Equality.{differs-behind, same-behind, same_out}
use Rattle.scan.proofs.same_groups.Goals as goal

pub same_group-requires : goal.same_group-requires
same_group-requires c = (omega arith, omega arith)

pub returns-then-not-same_group : goal.returns-then-not-same_group
returns-then-not-same_group c =
    let entry = c.args in
    sym
    (differs-behind entry.a.now entry.b.now 0 (length entry.a.now - 8) (omega arith)
    (c.same_group.ensures.1 (not-true _ c.if-not-same_group.true-raw)))

pub loop-i-init : goal.loop-i-init
loop-i-init c = refl

pub same_group-requires-in-loop-i : goal.same_group-requires-in-loop-i
same_group-requires-in-loop-i c = (omega arith, omega arith)

pub returns-then-not-same_group-2 : goal.returns-then-not-same_group-2
returns-then-not-same_group-2 c =
    let entry = c.args in
    let loop = c.loop-i in
    sym
    (differs-behind entry.a.now entry.b.now 0 loop.i (omega arith)
    (c.same_group-in-loop-i.ensures.1 (not-true _ c.if-not-same_group-2.true-raw)))

pub loop-i-preserved : goal.loop-i-preserved
loop-i-preserved c = c.loop-i.invariant ∙ c.same_group-in-loop-i.ensures.0 (not-false _ c.if-not-same_group-2.false-raw)

pub returns : goal.returns
returns c =
    let entry = c.args in
    let same-group = c.same_group in
    let if1 = c.if-not-same_group in
    sym
    (c.loop-i.invariant ∙ same-behind entry.a.now entry.b.now (length entry.a.now - 8) c.loop-i.i (omega arith)
    (same-group.ensures.0 (not-false _ if1.false-raw) ∙ same_out entry.a.now entry.b.now (length entry.a.now - 8 + 8)
    (omega arith) (omega arith)))
