-- `lost_jumps::empty_rule` meets its contract.
use Rattle.lost_jumps.proofs.Gone.{rule-gone}
use lib.ListN.{set, length-set}
use Prim.Native.Nat.{◌+◌, ◌*◌}
use native.Mathlib.Omega.{arith}
use borrow.Author.Rules.{rules}
use Rattle.lost_jumps.proofs.empty_rule.Goals as goal

pub bounds-rules-at-2 : goal.bounds-rules-at-2
bounds-rules-at-2 c =
    let t = c.args.rules.now in let at = c.args.i * 4 in omega (arith, length-set t at 0)

pub bounds-rules-at-3 : goal.bounds-rules-at-3
bounds-rules-at-3 c =
    let t = c.args.rules.now in
    let at = c.args.i * 4 in omega (arith, length-set t at 0, length-set (set t at 0) (at + 1) 0)

pub bounds-rules-at-4 : goal.bounds-rules-at-4
bounds-rules-at-4 c =
    let t = c.args.rules.now in
    let at = c.args.i * 4 in
    omega (arith, length-set t at 0, length-set (set t at 0) (at + 1) 0, length-set (set (set t at 0) (at + 1) 0) (at + 2) 0)

pub returns : goal.returns
returns c =
    let a = c.args in rule-gone a.i a.rules.now a.labels.now c.requires.0 c.requires.1
