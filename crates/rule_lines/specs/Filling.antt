-- The pairs of a line behind those that were read of it.
-- Assumes nothing.
use Rattle.std.specs.Prelude.{ℕ, ◌+◌, ◌-◌, ◌*◌, ◌≤◌, ◌<◌, ◌≡◌, Bool, true, false, List, [], ◌∷◌, ◌++◌, eqb, length}
use Rattle.std.specs.Prelude.{Option, None, Some}
use Rattle.lists.specs.Lists.{pick, is_some}
use Rattle.lists.specs.Checked.{Checked, refused, ok, ◌>>=◌}
use Rattle.lists.specs.Refusal.{Refusal, comma_missing}
use Rattle.rules.specs.Key.{Key, LABEL, GOTO, same_key}
use Rattle.rules.specs.Pair.{Pair, label_of, goto_of}
use Rattle.rules.specs.Reading.{again, read_pairs}
use Rattle.table.specs.Table.{pairs_from, Rows}
use Rattle.table.specs.Rules.{value_in, mark_of}
use Rattle.rule_lines.specs.declared.Fill.{Fill}

-- ---- the definition's pairs, behind those before

unfoldable pub pairs_on : ℕ → List Pair → List ℕ → Checked Refusal (List Pair)
pairs_on k before bs = read_pairs k (is_some (label_of before)) (is_some (goto_of before)) bs >>= λ ps. ok (before ++ ps)

abbrev pub comma_on : Bool → ℕ → List Pair → List ℕ → Checked Refusal (List Pair)
comma_on true k before bs = pairs_on k before bs
comma_on false k before bs = refused comma_missing

-- behind a pair: the line's end, or a comma and the other pairs
abbrev pub behind_on : ℕ → List Pair → List ℕ → Checked Refusal (List Pair)
behind_on k before [] = ok before
behind_on k before (b ∷ bs) = comma_on (eqb b 44) k before bs

-- ---- in the table

-- nothing of a line yet, behind n rows
abbrev pub start : ℕ → ℕ → Fill
start n used = record { label = None; goto = None; rows = n; used = used }

-- the pairs of the line whose rows start at a place
abbrev pub held : List ℕ → List ℕ → ℕ → Fill → List Pair
held v r from s = pairs_from v r from (s.rows - from)

pub record Held (v r : List ℕ) (from : ℕ) (s : Fill) : Type 0 where
  pub rows : Rows v r s.rows s.used
  pub begun : from ≤ s.rows
  pub label_in : mark_of s.label ≤ s.rows
  pub label : value_in v r (mark_of s.label) ≡ label_of (held v r from s)
  pub goto_in : mark_of s.goto ≤ s.rows
  pub goto : value_in v r (mark_of s.goto) ≡ goto_of (held v r from s)

-- there is room for what m bytes of text can hold, the end of a line counted as one: a pair takes seven
pub record Room (m : ℕ) (v r : List ℕ) (s : Fill) : Type 0 where
  pub values : s.used + m ≤ length v + 1
  pub small : length v < 65536
  pub few : length r < 65536
  pub rows : s.rows * 28 + m * 4 ≤ length r * 7

-- ---- a label or a jump noted

-- the row that comes next is noted
abbrev pub noted_fill : Key → Fill → Fill
noted_fill k s = record {
  label = pick (same_key k LABEL) (Some s.rows) s.label;
  goto = pick (same_key k GOTO) (Some s.rows) s.goto;
  rows = s.rows;
  used = s.used;
}

-- unless there is one already
abbrev pub noted_once : Key → Fill → Option Fill
noted_once k s = pick (again k (is_some s.label) (is_some s.goto)) None (Some (noted_fill k s))
