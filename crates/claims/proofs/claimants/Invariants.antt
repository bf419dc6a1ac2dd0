-- `claims::claimants` meets its contract.
use lib.ListN.{length}
use mathlib.Core.Path.{◌≡◌}
use Rattle.claims.proofs.Turns.{Seen}
use Rattle.claims.specs.Claims.{as_claimant}
use Rattle.claims.proofs.claimants.Given as goal

abbrev pub invariant-loop-i : goal.invariant-loop-i
invariant-loop-i l = Seen l.set l.name (as_claimant l.initial.top) l.list (as_claimant l.top) l.q l.i l.count l.n × (length l.list ≡ length l.initial.list)
