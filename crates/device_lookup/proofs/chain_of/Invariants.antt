-- `device_lookup::chain_of` meets its contract: each device that was passed has its place.
-- Assumes nothing.
use Prim.Native.Nat.{◌-◌, ◌≤◌}
use mathlib.Core.Path.{◌≡◌}
use Rattle.std.specs.Prelude.{Some}
use lib.ListN.{length}
use Rattle.device.specs.Device.{Device, chain, decode}
use Rattle.device_lookup.proofs.Devices.{Walk}
use Rattle.device_lookup.proofs.chain_of.Given as goal

abbrev pub invariant-loop-i : goal.invariant-loop-i
invariant-loop-i l = (d : Device) → decode l.rec ≡ Some d → (l.n ≡ length (chain d)) × (l.i ≤ l.n) × Walk d l.rec l.at l.p l.i
