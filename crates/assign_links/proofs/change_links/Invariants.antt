-- `assign_links::change_links` meets its contract.
use Rattle.assign_links.proofs.Links.{Going}
use Rattle.keys.specs.Table.{operator_of}
use lib.ListN.{length}
use Prim.Native.Nat.{◌-◌}
use Rattle.assign_links.proofs.change_links.Given as goal

abbrev pub invariant-loop-name : goal.invariant-loop-name
invariant-loop-name l = Going (operator_of l.operator) l.text l.initial.t l.initial.left l.t l.left l.at

abbrev pub decreases-loop-name : goal.decreases-loop-name
decreases-loop-name l = length l.text - l.at
