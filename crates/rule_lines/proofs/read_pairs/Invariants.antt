-- `rule_lines::read_pairs` meets its contract.
use Prim.Native.Nat.{ℕ, ◌+◌, ◌-◌, ◌≤◌}
use mathlib.Core.Path.{◌≡◌}
use mathlib.Core.Bool.{false}
use lib.ListN.{length, drop}
use Rattle.rules.specs.Reading.{read_pairs}
use Rattle.rule_lines.specs.Filling.{start, pairs_on, held, Room}
use Rattle.rule_lines.specs.Answers.{Grown}
use Rattle.rule_lines.proofs.read_pairs.Given as goal

-- the table grew by the pairs so far, and the others are left
abbrev pub invariant-loop-step : goal.invariant-loop-step
invariant-loop-step l =
    (l.i ≤ length l.line)
    × (pairs_on l.left (held l.values l.rows l.n l.fill) (drop l.i l.line) ≡ read_pairs 32 false false (drop l.at l.line))
    × ((beyond : ℕ) → Room (beyond + (length l.line - l.at) + 1) l.initial.values l.initial.rows (start l.n l.used)
    → Grown l.n (start l.n l.used) l.initial.values l.initial.rows (beyond + (length l.line - l.at) + 1) l.fill l.values l.rows (beyond + (length l.line - l.i) + 1))

abbrev pub decreases-loop-step : goal.decreases-loop-step
decreases-loop-step l = l.left
