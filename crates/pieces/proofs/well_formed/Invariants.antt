-- `pieces::well_formed` meets its contract.
use Prim.Native.Nat.{◌-◌, ◌≤◌}
use mathlib.Core.Path.{◌≡◌}
use lib.ListN.{length, drop}
use Rattle.lists.specs.Lists.{is_some}
use Rattle.template.specs.Template.{pieces, well_formed}
use Rattle.pieces.proofs.well_formed.Given as goal

abbrev pub invariant-loop-read : goal.invariant-loop-read
invariant-loop-read l = (l.i ≤ length l.template) × (is_some (pieces (drop l.i l.template)) ≡ well_formed l.template)

abbrev pub decreases-loop-read : goal.decreases-loop-read
decreases-loop-read l = length l.template - l.i
