-- The names in a text, and the byte rule on all of them at once.
-- Assumes nothing.
use Rattle.std.specs.Prelude.{ℕ, ◌≤◌, ◌<◌, ◌≡◌, Bool, true, false, List, [], ◌∷◌, eqb, length, drop, Option, Some, None}
use Rattle.lists.specs.Lists.{pick, is_empty, reject}
use Rattle.lists.specs.Bytes.{holds, part}
use Rattle.lists.specs.Runs.{split_at}
use Rattle.engine.specs.Assign.{clean_byte}
use Rattle.link_names.specs.declared.Name.{Name}

-- `#+-.:=@_/`
abbrev pub marks : List ℕ
marks = 35 ∷ 43 ∷ 45 ∷ 46 ∷ 58 ∷ 61 ∷ 64 ∷ 95 ∷ 47 ∷ []

abbrev pub is_mark : ℕ → Bool
is_mark b = holds b marks

-- a byte by the byte rule; a space stays where it parts names
abbrev pub byte_but : Bool → ℕ → ℕ
byte_but true b = pick (eqb b 32) b (clean_byte b)
byte_but false b = clean_byte b

-- a text split at runs of spaces
abbrev pub names : List ℕ → List (List ℕ)
names t = reject (λ x. is_empty x) (split_at 32 t)

-- the first name from a place on, and the place behind it
abbrev pub Named : List ℕ → ℕ → Option Name → Type 0
Named t from (Some n) = (names (drop from t) ≡ part t n.start n.end ∷ names (drop n.end t)) × (from ≤ n.start) × (n.start < n.end) × (n.end ≤ length t)
Named t from None = names (drop from t) ≡ []
