-- Rules whose GOTO no later rule answers that is kept, taken out of a table.
-- Assumes nothing.
use Rattle.std.specs.Prelude.{ℕ, ◌+◌, ◌-◌, ◌*◌, ◌≤◌, ◌<◌, ◌≡◌, List, [], ◌∷◌, length, get_or}
use Rattle.lists.specs.Lists.{pick}
use Rattle.lists.specs.Checked.{Placed, line}
use Rattle.rules.specs.Pair.{Rule, goto_of}
use Rattle.rules.specs.Reading.{reader}
use Rattle.striking.proofs.Rules.{is_kept}
use Rattle.table.specs.Table.{rule_at, rules_from}
use Rattle.table.specs.Rules.{Rules}
use Rattle.jumps.specs.Labels.{Before}

-- a rule before others: it stays, or nothing of it is left
abbrev pub judged_rule : Placed Rule → List (Placed Rule) → List (Placed Rule)
judged_rule (line n r) later = pick (is_kept reader (goto_of r) later) (line n r) (line 0 []) ∷ later

-- the rules of a table, each judged beside those behind it
unfoldable pub emptied : List (Placed Rule) → List (Placed Rule)
emptied [] = []
emptied (p ∷ ps) = judged_rule p (emptied ps)

-- the numbers of a rule are 0, and all others stay
pub record RuleGone (i : ℕ) (t l t' l' : List ℕ) : Type 0 where
  pub first : get_or t' (i * 4) 0 ≡ 0
  pub second : get_or t' (i * 4 + 1) 0 ≡ 0
  pub third : get_or t' (i * 4 + 2) 0 ≡ 0
  pub fourth : get_or t' (i * 4 + 3) 0 ≡ 0
  pub before : Before (i * 4) t t'
  pub behind : (k : ℕ) → i * 4 + 4 ≤ k → get_or t' k 0 ≡ get_or t k 0
  pub label : get_or l' i 0 ≡ 0
  pub others : (k : ℕ) → (k ≡ i → ⊥) → get_or l' k 0 ≡ get_or l k 0

-- the i-th rule is judged, beside those behind it
pub record Judges (v r t t' l' : List ℕ) (i m used count : ℕ) : Type 0 where
  pub table : Rules v r t' l' m used count
  pub rules : rules_from v r t' i (count - i) ≡ judged_rule (rule_at v r t i) (rules_from v r t (i + 1) (count - (i + 1)))
  pub before : Before (i * 4) t t'
