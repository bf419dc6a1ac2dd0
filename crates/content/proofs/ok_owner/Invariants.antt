-- `content::ok_owner` meets its contract: the bytes from here on say what all say.
use mathlib.Core.Path.{◌≡◌}
use lib.ListN.{drop}
use Rattle.lists.specs.Lists.{all}
use Rattle.outcome.specs.Content.{owner_byte, ok_owner}
use Rattle.content.proofs.ok_owner.Given as goal

abbrev pub invariant-loop-b : goal.invariant-loop-b
invariant-loop-b l = ok_owner l.x ≡ all owner_byte (drop l.b-index l.x)
