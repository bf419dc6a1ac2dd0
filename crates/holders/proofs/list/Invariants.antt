-- `holders::list` meets its contract.
use lib.ListN.{length}
use mathlib.Core.Path.{◌≡◌}
use Rattle.holders.specs.Lists.{Listing}
use Rattle.holders.proofs.list.Given as goal

abbrev pub invariant-loop : goal.invariant-loop
invariant-loop l = Listing l.set l.t l.done × (length l.t ≡ length l.initial.t) × (l.done.records ≡ l.counter)
