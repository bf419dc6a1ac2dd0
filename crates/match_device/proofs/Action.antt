-- The action of a sound record, in its header.
-- Assumes nothing.
use Prim.Native.Nat.{ℕ}
use mathlib.Core.Path.{◌≡◌, sym, ap, ◌∙◌}
use mathlib.Core.List.{List}
use Rattle.std.specs.Prelude.{Some}
use native.Mathlib.Omega.{arith}
use Rattle.lists.specs.Bytes.{Bytes}
use Rattle.bits.specs.Bits.{number_at}
use Rattle.entries.proofs.Heads.{number-first}
use Rattle.device.specs.Head.{Head}
use Rattle.device.specs.Device.{Device, decode}
use Rattle.device.proofs.RoundTrip.{head_decoded}
use Rattle.device_lookup.proofs.Devices.{record_head}

pub action_is : (l : List ℕ) (d : Device) → Bytes l → decode l ≡ Some d → number_at l 8 3 ≡ d.action
action_is l d b e = sym (number-first l 7 8 3 (record_head l d b e) (omega arith)) ∙ ap (λ (h : Head). h.action) (head_decoded l d e)
