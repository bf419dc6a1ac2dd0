-- Document 02, Item 5: the converters between the editions of the outcome record, as full answers; all refusals have line 0.
-- Assumes nothing.
use Rattle.std.specs.Prelude.{ℕ, List, leb, length}
use Rattle.std.specs.Prelude.{Option}
use Rattle.lists.specs.Checked.{Checked, ◌>>=◌, ◌>>◌, ok, require, found, Placed, line}
use Rattle.lists.specs.Refusal.{Refusal, target_short, device_bad, outcome_bad, too_new}
use Rattle.lists.specs.Sizes.{fullest_outcome, fullest_old}
use Rattle.device.specs.Device as D
use Rattle.device.specs.Device.{Device, chain}
use Rattle.outcome.specs.State as O
use Rattle.outcome.specs.State.{State}
use Rattle.outcome.specs.Old.{plain, encode_old, decode_old}
use Rattle.text.specs.Run.{Answer}
use Rattle.engine.specs.Operations.{decode_for, given}

-- a record of edition 1 beside a device
unfoldable pub decode_old_for : Device → List ℕ → Option State
decode_old_for d out = decode_old (length (chain d)) out

-- ---- old to new: 1, 3, 4
unfoldable pub newer_checked : List ℕ → List ℕ → ℕ → Checked (Placed Refusal) (List ℕ)
newer_checked dev out room = do
  require (leb fullest_outcome room) (line 0 target_short)
  d ← found (D.decode dev) (line 0 device_bad)
  s ← found (decode_old_for d out) (line 0 outcome_bad)
  ok (O.encode s)

unfoldable pub newer : List ℕ → List ℕ → ℕ → Answer
newer dev out room = given room (newer_checked dev out room)

-- ---- new to old: 1, 3, 4, and 5 where output or watch is set
unfoldable pub older_checked : List ℕ → List ℕ → ℕ → Checked (Placed Refusal) (List ℕ)
older_checked dev out room = do
  require (leb fullest_old room) (line 0 target_short)
  d ← found (D.decode dev) (line 0 device_bad)
  s ← found (decode_for d out) (line 0 outcome_bad)
  require (plain s) (line 0 too_new)
  ok (encode_old s)

unfoldable pub older : List ℕ → List ℕ → ℕ → Answer
older dev out room = given room (older_checked dev out room)
