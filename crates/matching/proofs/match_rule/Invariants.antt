-- `matching::match_rule` meets its contract: every row so far holds, and `parents` is the first of them with a parent key; `asks` is whether one is to be asked.
use Prim.Native.Nat.{◌-◌}
use mathlib.Core.Path.{◌≡◌}
use Rattle.lists.specs.Lists.{all}
use Rattle.table.specs.Table.{pairs_from}
use Rattle.engine.specs.Match.{pair_holds}
use Rattle.matching.specs.Judging.{Begun}
use Rattle.matching.proofs.Pending.{Noted}
use Rattle.matching.proofs.Asked.{AsksFrom}
use Rattle.matching.proofs.match_rule.Given as goal

abbrev pub invariant-loop-i : goal.invariant-loop-i
invariant-loop-i l =
    ((x : Begun l.dev l.chain l.t l.layout)
    → all (pair_holds x.device x.state) (pairs_from l.values l.rows l.from (l.to - l.from)) ≡ all (pair_holds x.device x.state) (pairs_from l.values l.rows l.i (l.to - l.i)))
    × Noted l.values l.rows l.to (pairs_from l.values l.rows l.from (l.to - l.from)) l.i l.parents
    × AsksFrom l.values l.rows l.to (pairs_from l.values l.rows l.from (l.to - l.from)) l.i l.asks
