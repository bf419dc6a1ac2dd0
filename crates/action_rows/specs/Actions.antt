-- The row of a rule's ACTION, noted for each rule of a table.
-- Assumes nothing.
use Rattle.std.specs.Prelude.{ℕ, zero, suc, ◌+◌, ◌-◌, ◌*◌, ◌≤◌, ◌<◌, ◌≡◌, List, ltb, length, get_or}
use Rattle.lists.specs.Lists.{pick}

-- one more than the first of k rows from the i-th on whose key is ACTION, or 0: the first number of a row is its kind, 16 times the number of its key
-- and less than 16 more for its operator and mark, and ACTION has the number 0
unfoldable pub action_in : List ℕ → ℕ → ℕ → ℕ
action_in rows i zero = 0
action_in rows i (suc k) = pick (ltb (get_or rows (i * 4) 0) 16) (i + 1) (action_in rows (suc i) k)

-- the rows of a rule are there
abbrev pub Within : List ℕ → List ℕ → ℕ → Type 0
Within rows rules i = (get_or rules (i * 4 + 1) 0 ≤ get_or rules (i * 4 + 2) 0) × (get_or rules (i * 4 + 2) 0 * 4 ≤ length rows)

-- the rules as they were but for the fourth number of each, which is noted for the first n
pub record ActionsPut (rows rules rules' : List ℕ) (n : ℕ) : Type 0 where
  pub size : length rules' ≡ length rules
  pub line : (i : ℕ) → get_or rules' (i * 4) 0 ≡ get_or rules (i * 4) 0
  pub from : (i : ℕ) → get_or rules' (i * 4 + 1) 0 ≡ get_or rules (i * 4 + 1) 0
  pub to : (i : ℕ) → get_or rules' (i * 4 + 2) 0 ≡ get_or rules (i * 4 + 2) 0
  pub action : (i : ℕ) → i < n → get_or rules' (i * 4 + 3) 0 ≡ action_in rows (get_or rules (i * 4 + 1) 0) (get_or rules (i * 4 + 2) 0 - get_or rules (i * 4 + 1) 0)
