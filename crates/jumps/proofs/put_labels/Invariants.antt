-- `jumps::put_labels` meets its contract.
use Prim.Native.Nat.{◌≤◌}
use mathlib.Core.Path.{◌≡◌}
use lib.ListN.{length}
use Rattle.jumps.specs.Labels.{Labels, Before}
use Rattle.jumps.proofs.put_labels.Given as goal

abbrev pub invariant-loop-i : goal.invariant-loop-i
invariant-loop-i l = (l.from ≤ l.i) × (l.i ≤ l.count) × (length l.later ≡ length l.initial.later) × Labels l.values l.rows l.labels l.hashes l.heads l.later l.i l.count × Before l.i l.initial.later l.later
