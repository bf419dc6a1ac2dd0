-- `splice::remove` meets its contract: before each turn what stood behind the n bytes up to k stands n earlier.
use Prim.Native.Nat.{◌+◌, ◌-◌, ◌≤◌}
use mathlib.Core.List.{◌++◌}
use mathlib.Core.Path.{◌≡◌}
use lib.ListN.{length, drop}
use Rattle.splice.proofs.Laws.{moved}
use Rattle.splice.proofs.remove.Given as goal

abbrev pub invariant-loop-k : goal.invariant-loop-k
invariant-loop-k l = (l.at + l.n ≤ l.k) × (l.k ≤ l.used) × (length l.t ≡ length l.initial.t) × (l.t ≡ moved l.initial.t l.at l.n l.k ++ drop (l.k - l.n) l.initial.t)

abbrev pub decreases-loop-k : goal.decreases-loop-k
decreases-loop-k l = l.used - l.k
