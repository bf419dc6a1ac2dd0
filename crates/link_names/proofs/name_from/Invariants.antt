-- `link_names::name_from` meets its contract.
use mathlib.Core.Path.{◌≡◌}
use lib.ListN.{length, drop}
use Prim.Native.Nat.{◌-◌, ◌≤◌}
use Rattle.link_names.specs.Names.{names}
use Rattle.link_names.proofs.name_from.Given as goal

abbrev pub invariant-loop-start : goal.invariant-loop-start
invariant-loop-start l = names (drop l.from l.text) ≡ names (drop l.start l.text)
