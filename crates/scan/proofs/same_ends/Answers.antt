-- `scan::same_ends` meets its contract.
use Prim.Native.Nat.{◌-◌}
use native.Mathlib.Omega.{arith}
use lib.ListN.{length}
use Rattle.scan.proofs.Equality.{same_two}
use Rattle.scan.proofs.same_ends.Goals as goal

pub returns-then-same_group : goal.returns-then-same_group
returns-then-same_group c =
    let args = c.args in
    let last = c.same_group-then-same_group in
    same_two args.a.now args.b.now (length args.a.now - args.n) args.n (omega arith) (omega arith) c.requires.2
    (c.same_group.ensures.0 c.if-same_group.true) last.result last.ensures.0 last.ensures.1
