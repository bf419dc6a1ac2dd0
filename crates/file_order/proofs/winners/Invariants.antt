-- `file_order::winners` meets its contract.
use mathlib.Core.Path.{◌≡◌}
use lib.ListN.{length}
use Rattle.file_order.proofs.Taking.{Ordered}
use Rattle.file_order.proofs.winners.Given as goal

abbrev pub invariant-loop-i : goal.invariant-loop-i
invariant-loop-i l = Ordered l.set l.starts l.n l.order l.k l.i × (length l.order ≡ length l.initial.order)
