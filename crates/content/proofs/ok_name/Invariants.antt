-- `content::ok_name` meets its contract: the components from here on say what all say.
use Prim.Native.Nat.{◌-◌, ◌≤◌}
use mathlib.Core.Path.{◌≡◌}
use lib.ListN.{length, drop}
use Rattle.lists.specs.Lists.{all}
use Rattle.lists.specs.Runs.{split_at}
use Rattle.outcome.specs.Content.{ok_part, ok_name}
use Rattle.content.proofs.ok_name.Given as goal

abbrev pub invariant-loop-n : goal.invariant-loop-n
invariant-loop-n l = (l.i ≤ length l.x) × (ok_name l.x ≡ all ok_part (split_at 47 (drop l.i l.x)))

abbrev pub decreases-loop-n : goal.decreases-loop-n
decreases-loop-n l = length l.x - l.i
