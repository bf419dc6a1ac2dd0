-- `insertion::store_spaceless` meets its contract: after i turns the first i bytes of `src`, their whitespace made `_`, stand at `at`.
use Prim.Native.Nat.{◌≤◌, ◌-◌}
use mathlib.Core.Path.{◌≡◌}
use mathlib.Core.List.{map}
use lib.ListN.{length}
use lib.Seq.{paste}
use Rattle.lists.specs.Bytes.{no_space}
use Rattle.insertion.proofs.store_spaceless.Given as goal

abbrev pub invariant-loop-i : goal.invariant-loop-i
invariant-loop-i l = l.t ≡ paste l.initial.t l.at (map no_space l.src) l.i
