-- `file_order::place_of` meets its contract.
use Prim.Native.Nat.{◌+◌}
use mathlib.Core.Path.{◌≡◌}
use lib.ListN.{drop}
use Rattle.file_rows.specs.Places.{file_at}
use Rattle.file_order.specs.Order.{chosen, place_in}
use Rattle.file_order.proofs.place_of.Given as goal

abbrev pub invariant-loop-j : goal.invariant-loop-j
invariant-loop-j l = l.j + place_in (file_at l.set l.p) (drop l.j (chosen l.set l.starts l.order l.k)) ≡ place_in (file_at l.set l.p) (chosen l.set l.starts l.order l.k)
