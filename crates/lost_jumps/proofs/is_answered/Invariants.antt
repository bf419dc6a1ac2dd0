-- `lost_jumps::is_answered` meets its contract.
use Rattle.jumps.specs.Jumps.{NoneTo}
use Rattle.table.specs.Rules.{Rules}
use mathlib.Core.List.{List}
use Prim.Native.Nat.{ℕ, ◌-◌, ◌≤◌}
use Rattle.lost_jumps.proofs.is_answered.Given as goal

abbrev pub invariant-loop-i : goal.invariant-loop-i
invariant-loop-i l =
    (l.from ≤ l.i) × ((t : List ℕ) (m used : ℕ) → Rules l.values l.rows t l.labels m used l.count → NoneTo l.values l.rows t l.name l.from l.i)
