-- `splice::open_gap` meets its contract: before each turn the part from k on stands n further on.
use Prim.Native.Nat.{◌-◌, ◌≤◌}
use mathlib.Core.Path.{◌≡◌}
use lib.ListN.{length}
use Rattle.splice.specs.Moves.{opened}
use Rattle.splice.proofs.open_gap.Given as goal

abbrev pub invariant-loop-k : goal.invariant-loop-k
invariant-loop-k l = (l.at ≤ l.k) × (l.k ≤ l.used) × (length l.t ≡ length l.initial.t) × (l.t ≡ opened l.initial.t l.k l.used l.n)

abbrev pub decreases-loop-k : goal.decreases-loop-k
decreases-loop-k l = l.k
