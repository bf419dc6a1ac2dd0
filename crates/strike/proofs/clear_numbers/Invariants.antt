-- `strike::clear_numbers` meets its contract: after i turns the list is i zeros and then what it was.
use Prim.Native.Nat.{◌≤◌, ◌-◌}
use mathlib.Core.Path.{◌≡◌}
use mathlib.Core.List.{◌++◌}
use lib.ListN.{length, drop, replicate}
use Rattle.strike.proofs.clear_numbers.Given as goal

abbrev pub invariant-loop-n : goal.invariant-loop-n
invariant-loop-n l = (l.n-index ≤ length l.initial.list) × (length l.list ≡ length l.initial.list) × (l.list ≡ replicate l.n-index 0 ++ drop l.n-index l.initial.list)
