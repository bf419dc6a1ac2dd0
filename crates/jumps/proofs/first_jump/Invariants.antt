-- `jumps::first_jump` meets its contract: no rule that is passed has a jump.
use Prim.Native.Nat.{ℕ, ◌≤◌}
use mathlib.Core.Path.{◌≡◌}
use mathlib.Core.List.{List}
use lib.ListN.{length}
use Rattle.table.specs.Rules.{Rules}
use Rattle.jumps.specs.Jumps.{UpTo}
use Rattle.jumps.proofs.first_jump.Given as goal

abbrev pub invariant-loop-i : goal.invariant-loop-i
invariant-loop-i l = (l.i ≤ l.count) × (length l.jumps ≡ length l.initial.jumps) × ((v s ls : List ℕ) (m used : ℕ) → Rules v s l.rules ls m used l.count → UpTo v s l.rules l.count l.jumps l.i)
