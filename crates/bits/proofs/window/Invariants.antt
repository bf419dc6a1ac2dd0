-- `bits::window` meets its contract: after i turns w is the number of the first i bytes.
use Prim.Native.Nat.{◌-◌, ◌*◌, ◌≤◌}
use mathlib.Core.Path.{◌≡◌}
use Rattle.bits.specs.Bits.{number_at}
use Rattle.bits.proofs.window.Given as goal

abbrev pub invariant-loop-i : goal.invariant-loop-i
invariant-loop-i l = l.w ≡ number_at l.s (8 * l.first) (8 * l.i)
