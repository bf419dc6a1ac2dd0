-- The fullest run list has 8,225 bytes.
-- Assumes nothing.
use Prim.Native.Nat.{ℕ, ◌≤◌}
use mathlib.Core.Path.{◌≡◌}
use mathlib.Core.List.{List}
use lib.ListN.{length}
use Rattle.lists.specs.Checked.{ok}
use Rattle.lists.specs.Sizes.{most_runs, fullest_run_list}
use Rattle.lists.proofs.Checked.{holds_at}
use Rattle.entries.specs.Entry.{Property}
use Rattle.device.specs.Device.{Device}
use Rattle.outcome.specs.State.{Run}
use Rattle.engine.specs.Operations.{Command, commands, run_list}
use Rattle.engine.proofs.Sizes.{Made, commands-made, list_size}

pub list_few : (d : Device) (ps : List Property) (x : List ℕ) (rs : List Run) (cs : List Command) → commands d ps x rs ≡ ok cs → length rs ≤ most_runs → length (run_list cs) ≤ fullest_run_list
list_few d ps x rs cs e h = list_size (length rs) cs (holds_at (Made (length rs)) e (commands-made d ps x rs)) h
