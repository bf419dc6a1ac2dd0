-- The rules of a table that was read, with the rows of their labels and jumps.
-- Assumes nothing.
use Rattle.std.specs.Prelude.{ℕ, ◌+◌, ◌-◌, ◌*◌, ◌≤◌, ◌<◌, ◌≡◌, List, eqb, get_or}
use Rattle.std.specs.Prelude.{Option, None, Some}
use Rattle.lists.specs.Lists.{pick}
use Rattle.rules.specs.Pair.{Rule, label_of, goto_of}
use Rattle.table.specs.Table.{pair_at, pairs_from, Rows}

-- the value of the row before this number; 0 is no row
abbrev pub value_in : List ℕ → List ℕ → ℕ → Option (List ℕ)
value_in v r m = pick (eqb m 0) None (Some (pair_at v r (m - 1)).value)

-- as a table notes a row: one more than it, or 0 for none
abbrev pub mark_of : Option ℕ → ℕ
mark_of None = 0
mark_of (Some k) = k + 1

-- the pairs of the i-th rule
abbrev pub pairs_of : List ℕ → List ℕ → List ℕ → ℕ → Rule
pairs_of v r t i = pairs_from v r (get_or t (i * 4 + 1) 0) (get_or t (i * 4 + 2) 0 - get_or t (i * 4 + 1) 0)

-- a rule keeps to the rows that there are, and the rows of its label and its jump are noted
pub record RuleIn (v r t l : List ℕ) (n i : ℕ) : Type 0 where
  pub ordered : get_or t (i * 4 + 1) 0 ≤ get_or t (i * 4 + 2) 0
  pub to : get_or t (i * 4 + 2) 0 ≤ n
  pub label_in : get_or l i 0 ≤ n
  pub label : value_in v r (get_or l i 0) ≡ label_of (pairs_of v r t i)
  pub goto_in : get_or t (i * 4 + 3) 0 ≤ n
  pub goto : value_in v r (get_or t (i * 4 + 3) 0) ≡ goto_of (pairs_of v r t i)

-- so many rules, over m rows that use so many bytes
pub record Rules (v r t l : List ℕ) (m used count : ℕ) : Type 0 where
  pub rows : Rows v r m used
  pub rules : (i : ℕ) → i < count → RuleIn v r t l m i
