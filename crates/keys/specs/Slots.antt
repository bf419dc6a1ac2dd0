-- Where the row of a name stands in the table, without a search.
-- Assumes nothing.
use Rattle.std.specs.Prelude.{ℕ, ◌+◌, ◌*◌, ◌%◌, ◌≡◌, List, length, get_or}
use Rattle.std.specs.Prelude.{Some}
use Rattle.lists.specs.Lists.{nth}
use Rattle.rules.specs.Key as rules

-- a number below 32 that differs for the names of the table
unfoldable pub slot_of : List ℕ → ℕ
slot_of n = (get_or n 0 0 + 5 * get_or n 1 0 + 8 * (length n % 4)) % 32

-- the row of a name, if there is one, stands at this place
abbrev pub IsPlace : List ℕ → ℕ → Type 0
IsPlace n k = (row : rules.Row) → rules.row_of n ≡ Some row → nth k rules.rows ≡ Some row
