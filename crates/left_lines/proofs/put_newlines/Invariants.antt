-- `left_lines::put_newlines` meets its contract.
use Rattle.splice.specs.Moves.{stored}
use lib.ListN.{length, replicate}
use mathlib.Core.Path.{◌≡◌}
use Prim.Native.Nat.{◌-◌, ◌≤◌}
use Rattle.left_lines.proofs.put_newlines.Given as goal

abbrev pub invariant-loop-i : goal.invariant-loop-i
invariant-loop-i l = (l.i ≤ l.n) × (l.target ≡ stored l.initial.target l.used (replicate l.i 10)) × (length l.target ≡ length l.initial.target)
