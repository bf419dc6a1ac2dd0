-- `link_names::clean` meets its contract.
use mathlib.Core.Path.{◌≡◌}
use lib.ListN.{length}
use Prim.Native.Nat.{◌-◌, ◌≤◌}
use Rattle.link_names.specs.Names.{byte_but}
use Rattle.link_names.proofs.Cleaning.{cleaned_to}
use Rattle.link_names.proofs.clean.Given as goal

abbrev pub invariant-loop-b : goal.invariant-loop-b
invariant-loop-b l = l.x ≡ cleaned_to (byte_but l.spaces) l.initial.x l.b-index
