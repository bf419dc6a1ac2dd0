use Prim.Native.Nat.{◌+◌, ◌-◌}
use mathlib.Core.Path.{sym}
use native.Mathlib.Omega.{arith}
use lib.ListN.{length}
use Rattle.glob.proofs.Plain.{plain_both, plain-whole, plain_last}
use Rattle.glob.proofs.all_plain.Goals as goal

pub returns-then-len-lt4 : goal.returns-then-len-lt4
returns-then-len-lt4 c = c.few_plain.ensures

pub returns-then-special_in_group : goal.returns-then-special_in_group
returns-then-special_in_group c = sym (c.special_in_group.ensures.some c.if-special_in_group.true)

pub returns-then-len-lt8 : goal.returns-then-len-lt8
returns-then-len-lt8 c =
    let s = c.args.pattern.now in
    let last = c.special_in_group-then-len-lt8 in
    plain_last s 4 (length s - 4) (length s - 4 + 4) (c.special_in_group.ensures.none c.if-special_in_group.false) (omega arith) (omega arith) last.result last.ensures

pub returns-then-special_in_group-2 : goal.returns-then-special_in_group-2
returns-then-special_in_group-2 c = sym (c.special_in_group-2.ensures.some c.if-special_in_group-2.true)

pub loop-i-init : goal.loop-i-init
loop-i-init c = λ k h l. absurd (omega arith)

pub returns-then-special_in_group-3 : goal.returns-then-special_in_group-3
returns-then-special_in_group-3 c = sym (c.special_in_group-in-loop-i.ensures.some c.if-special_in_group-3.true)

pub loop-i-preserved : goal.loop-i-preserved
loop-i-preserved c =
    let s = c.args.pattern.now in
    let loop = c.loop-i in
    plain_both s 0 loop.i loop.invariant loop.i (loop.i + 8) (omega arith) (c.special_in_group-in-loop-i.ensures.none c.if-special_in_group-3.false)

pub returns : goal.returns
returns c =
    let s = c.args.pattern.now in
    let loop = c.loop-i in
    let last = c.special_in_group-2 in
    sym (plain-whole s (length s - 8 + 8) (omega arith) (plain_both s 0 loop.i loop.invariant (length s - 8) (length s - 8 + 8) (omega arith) (last.ensures.none c.if-special_in_group-2.false)))
