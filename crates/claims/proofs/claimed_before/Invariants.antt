-- `claims::claimed_before` meets its contract.
use Prim.Native.Nat.{◌-◌}
use lib.ListN.{take, drop}
use mathlib.Core.Path.{◌≡◌}
use Rattle.claims.specs.Records.{states_in, Standing}
use Rattle.contest.specs.Contest.{claims}
use Rattle.lists.specs.Lists.{any}
use Rattle.claims.proofs.claimed_before.Given as goal

abbrev pub invariant-loop : goal.invariant-loop
invariant-loop l =
    Standing l.set l.p (drop l.counter (states_in l.set))
    × (any (claims l.name) (take (l.n - l.counter) (drop l.counter (states_in l.set))) ≡ any (claims l.name) (take l.n (states_in l.set)))
