-- `device_check::ok_path` meets its contract.
use Prim.Native.Nat.{◌-◌, ◌≤◌}
use mathlib.Core.Path.{◌≡◌}
use lib.ListN.{length, get_or, drop}
use Rattle.device.specs.Device.{ok_path}
use Rattle.device_check.proofs.Paths.{tail_ok}
use Rattle.device_check.proofs.ok_path.Given as goal

abbrev pub invariant-loop-i : goal.invariant-loop-i
invariant-loop-i l = (1 ≤ l.i) × (l.i ≤ length l.s) × (tail_ok (get_or l.s (l.i - 1) 0) (drop l.i l.s) ≡ ok_path l.s)
