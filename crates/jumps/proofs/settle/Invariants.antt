-- `jumps::settle` meets its contract: the lists hold the labels of the rules behind the one at hand.
use Prim.Native.Nat.{ℕ, ◌≤◌}
use mathlib.Core.Path.{◌≡◌}
use borrow.Author.Rules.{rules}
use lib.ListN.{length}
use Rattle.table.specs.Rules.{Rules}
use Rattle.jumps.specs.Jumps.{UpTo}
use Rattle.jumps.specs.Labels.{Labels}
use Rattle.jumps.proofs.settle.Given as goal

abbrev pub invariant-loop-i : goal.invariant-loop-i
invariant-loop-i l = (l.i ≤ l.count) × (length l.jumps ≡ length l.initial.jumps) × Labels l.values l.rows l.labels l.hashes l.heads l.jumps l.i l.count × ((m used : ℕ) → Rules l.values l.rows l.rules l.labels m used l.count → UpTo l.values l.rows l.rules l.count l.jumps l.i)
