-- What the code's answers stand for.
-- Assumes nothing.
use Rattle.std.specs.Prelude.{ℕ, ◌+◌, ◌-◌, ◌≤◌, ◌<◌, ◌≡◌, false, List, length, drop}
use Rattle.std.specs.Prelude.{Option, None, Some, Result, Ok, Err}
use Rattle.lists.specs.Checked.{Checked, refused, ok}
use Rattle.lists.specs.Refusal.{Refusal}
use Rattle.rules.specs.Pair.{Pair}
use Rattle.rules.specs.Reading.{read_pairs}
use Rattle.refusals.specs.Refusals.{refusal_of}
use Rattle.table.specs.Puts.{Kept}
use Rattle.rule_lines.specs.declared.Fill.{Fill}
use Rattle.refusals.specs.declared.Refusal as refusals
use Rattle.rule_lines.specs.declared.Step.{Step}
use Rattle.rule_lines.specs.Filling.{pairs_on, held, Held, Room}

-- a table with the rows of a line from `from` on, and room for what so many bytes can hold
pub record Grown (from : ℕ) (s : Fill) (v r : List ℕ) (m : ℕ) (s' : Fill) (v' r' : List ℕ) (m' : ℕ) : Type 0 where
  pub held : Held v' r' from s'
  pub kept : Kept s.used s.rows v r v' r'
  pub used : s.used ≤ s'.used
  pub rows : s.rows ≤ s'.rows
  pub room : Room m' v' r' s'

-- behind a pair: the line's end, or another pair at a place
abbrev pub NextIs : List ℕ → ℕ → ℕ → ℕ → ℕ → Fill → List ℕ → List ℕ → Fill → List ℕ → List ℕ → Option ℕ → Type 0
NextIs line at left from beyond s v r s' v' r' None =
    (pairs_on left (held v r from s) (drop at line) ≡ ok (held v' r' from s')) × Grown from s v r (beyond + (length line - at) + 1) s' v' r' beyond
NextIs line at left from beyond s v r s' v' r' (Some i) =
    (pairs_on left (held v r from s) (drop at line) ≡ pairs_on (left - 1) (held v' r' from s') (drop i line))
    × Grown from s v r (beyond + (length line - at) + 1) s' v' r' (beyond + (length line - i) + 1)
    × (0 < left) × (at < i) × (i ≤ length line)

-- of a pair at a place, where left pairs were still allowed, and so many bytes lie beyond the line
abbrev pub StepIs : List ℕ → ℕ → ℕ → ℕ → ℕ → Fill → List ℕ → List ℕ → List ℕ → List ℕ → Result Step refusals.Refusal → Type 0
StepIs line at left from beyond s v r v' r' (Err f) = (pairs_on left (held v r from s) (drop at line) ≡ refused (refusal_of f)) × Kept s.used s.rows v r v' r'
StepIs line at left from beyond s v r v' r' (Ok step) = NextIs line at left from beyond s v r step.fill v' r' step.next

abbrev pub PairsAre : List ℕ → ℕ → ℕ → Fill → List ℕ → List ℕ → List ℕ → List ℕ → Result Fill refusals.Refusal → Type 0
PairsAre line at beyond s v r v' r' (Err f) = (read_pairs 32 false false (drop at line) ≡ refused (refusal_of f)) × Kept s.used s.rows v r v' r'
PairsAre line at beyond s v r v' r' (Ok s') =
    (read_pairs 32 false false (drop at line) ≡ ok (held v' r' s.rows s')) × Grown s.rows s v r (beyond + (length line - at) + 1) s' v' r' beyond
