-- `content::mode_of` meets its contract: the digits from here on give the whole answer.
use Prim.Native.Nat.{◌-◌, ◌^◌, ◌≤◌, ◌<◌}
use mathlib.Core.Path.{◌≡◌}
use lib.ListN.{length, drop}
use Rattle.content.specs.Mode.{mode_of}
use Rattle.content.proofs.Modes.{mode_from}
use Rattle.content.proofs.mode_of.Given as goal

abbrev pub invariant-loop-b : goal.invariant-loop-b
invariant-loop-b l = (length l.x ≤ 4) × (l.mode < 8 ^ l.b-index) × (mode_of l.x ≡ mode_from l.mode (drop l.b-index l.x))
