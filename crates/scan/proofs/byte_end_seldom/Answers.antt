-- `scan::byte_end_seldom` meets its contract.
use mathlib.Core.Path.{refl}
use lib.ListN.{length}
use Rattle.scan.proofs.Groups.{lacks_run}
use Rattle.scan.proofs.byte_end_seldom.Goals as goal

pub returns-then-lacks : goal.returns-then-lacks
returns-then-lacks c =
    let s = c.args.s.now in
    lacks_run c.args.b s c.args.at (length s) (c.lacks.ensures c.if-lacks.true) c.requires refl
