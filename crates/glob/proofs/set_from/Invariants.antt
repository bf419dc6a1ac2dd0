-- `glob::set_from` meets its contract.
use Prim.Native.Nat.{◌-◌}
use mathlib.Core.Bool.{false}
use mathlib.Core.Path.{◌≡◌}
use lib.ListN.{length}
use Rattle.glob.specs.Sets.{member_start}
use Rattle.glob.specs.Place.{alternative_at, NotBar}
use Rattle.glob.proofs.set_from.Given as goal

abbrev pub invariant-loop-member : goal.invariant-loop-member
invariant-loop-member l = NotBar l.pattern l.i × (member_start l.opposite l.found l.x l.i (alternative_at l.pattern l.i) ≡ member_start l.opposite false l.x l.first (alternative_at l.pattern l.first))

abbrev pub decreases-loop-member : goal.decreases-loop-member
decreases-loop-member l = length l.pattern - l.i
