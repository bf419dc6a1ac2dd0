-- The fresh record of an accepted device is an accepted record.
-- Assumes nothing.
use Prim.Native.Nat.{ℕ}
use mathlib.Core.Path.{◌≡◌, refl}
use mathlib.Core.List.{List}
use Rattle.std.specs.Prelude.{Some}
use native.Mathlib.Omega.{arith}
use lib.ListN.{length}
use Rattle.device.specs.Device as device
use Rattle.device.specs.Device.{Device, chain}
use Rattle.device.proofs.Sound.{device_sound, device_distinct}
use Rattle.outcome.specs.State.{Good, encode, decode, fresh}
use Rattle.outcome.proofs.RoundTrip.{there}
use Rattle.outcome.proofs.Edits.{empty_entries, empty_runs}

pub fresh_good : (bs : List ℕ) (d : Device) → device.decode bs ≡ Some d → Good (length (chain d)) (fresh d)
unfolding fresh
fresh_good bs d e =
    let h = device_sound bs d e in
    record {
      owner = refl;
      group = refl;
      mode = tt;
      priority = omega arith;
      output = refl;
      watch = omega arith;
      links = empty_entries _ _;
      properties = record { few = h.few_properties; each = h.properties; apart = device_distinct bs d e };
      tags = empty_entries _ _;
      runs = empty_runs (length (chain d));
    }

-- so a run that begins with it is not refused as 4
pub fresh_read : (bs : List ℕ) (d : Device) → device.decode bs ≡ Some d → decode (length (chain d)) (encode (fresh d)) ≡ Some (fresh d)
fresh_read bs d e = there (length (chain d)) (fresh d) (fresh_good bs d e)
