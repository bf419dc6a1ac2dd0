-- `matching::nearest` meets its contract: no device before the one at hand satisfies all parent keys, and each row so far holds at this one.
use Prim.Native.Nat.{ℕ, ◌+◌, ◌-◌, ◌≤◌}
use mathlib.Core.Path.{◌≡◌}
use mathlib.Core.Bool.{Bool}
use lib.ListN.{drop}
use Rattle.lists.specs.Lists.{all}
use Rattle.rules.specs.Pair.{Pair}
use Rattle.table.specs.Table.{pairs_from}
use Rattle.device.specs.Device.{Member, chain}
use Rattle.device.specs.Places.{Lies}
use Rattle.engine.specs.Match as match
use Rattle.engine.specs.Match.{parent_holds}
use Rattle.matching.specs.Judging.{Begun}
use Rattle.matching.proofs.nearest.Given as goal

abbrev pub parent_test : Member → Pair → Bool
parent_test m p = parent_holds p.key m p

abbrev pub invariant-loop-i : goal.invariant-loop-i
invariant-loop-i l =
    (m : Member) → Lies l.dev l.device m
    → all (parent_test m) (pairs_from l.values l.rows l.from (l.to - l.from)) ≡ all (parent_test m) (pairs_from l.values l.rows l.i (l.to - l.i))

abbrev pub invariant-search : goal.invariant-search
invariant-search l =
    (l.k ≤ l.devices)
    × ((x : Begun l.dev (record { len = l.devices; at = l.places }) l.t l.layout)
    → match.nearest 1 (chain x.device) (pairs_from l.values l.rows l.from (l.to - l.from))
    ≡ match.nearest (l.k + 1) (drop l.k (chain x.device)) (pairs_from l.values l.rows l.from (l.to - l.from)))

abbrev pub decreases-search : goal.decreases-search
decreases-search l = l.devices - l.k
