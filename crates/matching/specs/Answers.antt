-- What the code's answers stand for in the definitions.
-- Assumes nothing.
use Rattle.std.specs.Prelude.{ℕ, ◌≤◌, ◌≡◌, Bool, ◌||◌}
use Rattle.std.specs.Prelude.{true, false, Option, None, Some, Result, Ok, Err}
use Rattle.lists.specs.Lists.{any}
use Rattle.rules.specs.Key.{Key, PROGRAM, RESULT, same_key}
use Rattle.rules.specs.Pair.{Rule}
use Rattle.matching.specs.declared.Matched.{Matched}

-- the place of the matched device
abbrev pub place_in : Result ℕ ℕ → Option ℕ
place_in (Ok k) = Some k
place_in (Err n) = None

-- document 02, Item 9: the devices tried
abbrev pub tried_in : Result ℕ ℕ → ℕ
tried_in (Ok k) = k
tried_in (Err n) = n

-- without what is still to be judged
abbrev pub near_of : Result Matched ℕ → Result ℕ ℕ
near_of (Ok m) = Ok m.place
near_of (Err n) = Err n

-- the first row with a parent key among those up to the i-th
abbrev pub first_of : Option ℕ → Bool → ℕ → Option ℕ
first_of (Some k) parent i = Some k
first_of None true i = Some i
first_of None false i = None

-- document 02, Item 6: the keys that are judged behind all others
abbrev pub is_asked : Key → Bool
is_asked k = same_key k PROGRAM || same_key k RESULT

unfoldable pub asks_in : Rule → Bool
asks_in r = any (λ p. is_asked p.key) r

-- a rule that matched says whether it has one
abbrev pub Asks : Rule → Result Matched ℕ → Type 0
Asks r (Ok m) = m.asks ≡ asks_in r
Asks r (Err n) = Unit {0}
