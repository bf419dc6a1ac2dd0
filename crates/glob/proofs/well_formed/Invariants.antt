-- `glob::well_formed` meets its contract.
use Prim.Native.Nat.{◌-◌, ◌≤◌}
use mathlib.Core.Path.{◌≡◌}
use lib.ListN.{length}
use Rattle.glob.proofs.Alternatives.{sound_from}
use Rattle.pattern.specs.Pattern.{well_formed}
use Rattle.glob.proofs.well_formed.Given as goal

abbrev pub invariant-loop-p : goal.invariant-loop-p
invariant-loop-p l = (l.p ≤ length l.pattern) × (sound_from l.pattern l.p ≡ well_formed l.pattern)

abbrev pub decreases-loop-p : goal.decreases-loop-p
decreases-loop-p l = length l.pattern - l.p
