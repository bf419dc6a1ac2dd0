-- A value behind an `e` and its mark, by the places of a line.
-- Assumes nothing.
use Rattle.std.specs.Prelude.{ℕ, ◌+◌, ◌-◌, ◌≤◌, ◌<◌, ◌≡◌, List, [], ◌∷◌, ◌++◌, length, take, drop, set}
use Rattle.std.specs.Prelude.{Option, None, Some}
use Rattle.lists.specs.Bytes.{part}
use Rattle.lists.specs.Runs.{Part}
use Rattle.rules.specs.Coded.{coded}

abbrev pub value_or : Option (Part (List ℕ)) → List ℕ
value_or None = []
value_or (Some p) = p.value

-- the value that the bytes between two marks stand for
unfoldable pub decoded : List ℕ → List ℕ
decoded written = value_or (coded 0 (written ++ (34 ∷ [])))

-- a value is written from s to e
pub record Written (line : List ℕ) (s e : ℕ) : Type 0 where
  pub from : s ≤ e
  pub within : e < length line
  pub closed : coded 0 (drop s line) ≡ Some (record { value = decoded (part line s e); rest = drop (e + 1) line })

-- the first n bytes of an array are a text
pub record Put (text out : List ℕ) (n : ℕ) : Type 0 where
  pub is : take n out ≡ text
  pub size : n ≡ length text

-- a byte is put at a place, if there is room
pub record PutAt (n b : ℕ) (out out' : List ℕ) : Type 0 where
  pub size : length out' ≡ length out
  pub is : n < length out → out' ≡ set out n b
