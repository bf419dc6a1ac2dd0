-- `holders::put_others` meets its contract.
use Prim.Native.Nat.{◌+◌}
use lib.ListN.{length, take}
use mathlib.Core.Path.{◌≡◌}
use Rattle.holders.proofs.Rows.{but}
use Rattle.splice.specs.Moves.{stored}
use Rattle.holders.proofs.put_others.Given as goal

abbrev pub invariant-loop-position : goal.invariant-loop-position
invariant-loop-position l =
    (l.end ≡ l.at + length (but l.holder (take l.position-index l.list))) × (l.t ≡ stored l.initial.t l.at (but l.holder (take l.position-index l.list))) × (length l.t ≡ length l.initial.t)
