-- `bits::set_window` meets its contract: before each turn i bytes are still to be written.
use Prim.Native.Nat.{◌-◌, ◌*◌, ◌/◌, ◌^◌, ◌≤◌}
use mathlib.Core.Path.{◌≡◌}
use lib.ListN.{length}
use Rattle.bits.proofs.Windows.{written}
use Rattle.bits.proofs.set_window.Given as goal

abbrev pub invariant-loop-i : goal.invariant-loop-i
invariant-loop-i l = (l.s ≡ written l.initial.s l.first l.count l.w l.i) × (l.rest ≡ l.w / 2 ^ (8 * (l.count - l.i)))
