-- `set_rows::is_set` meets its contract.
use Prim.Native.Nat.{◌-◌, ◌≤◌}
use lib.ListN.{length, drop}
use mathlib.Core.Path.{◌≡◌}
use Rattle.lists.specs.Lists.{is_some}
use Rattle.set_rows.proofs.Walk.{is_whole}
use Rattle.sets.specs.Sets.{decode_set}
use Rattle.set_rows.proofs.is_set.Given as goal

abbrev pub invariant-loop : goal.invariant-loop
invariant-loop g l = (l.p ≤ length l.set) × (is_whole g.E.Entry.one (l.count - l.counter) (drop l.p l.set) ≡ is_some (decode_set l.least l.most g.E.Entry.one l.set))
