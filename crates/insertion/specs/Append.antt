-- What insertion leaves: the text behind what was there so far, or that there is no room for it.
-- Assumes nothing.
use Rattle.std.specs.Prelude.{Option, Some, None}
use Rattle.std.specs.Prelude.{ℕ, ◌+◌, ◌≤◌, ◌<◌, ◌≡◌, Bool, true, false, List, map, length}
use Rattle.lists.specs.Bytes.{no_space}
use Rattle.splice.specs.Moves.{stored}

-- a text with its whitespace made `_` where that is asked
abbrev pub asked : Bool → List ℕ → List ℕ
asked spaceless x = elim spaceless [ true ↦ map no_space x | false ↦ x ]

-- x stands behind the first `used` bytes of l, which is then l', and ends at k
pub record Placed (x l : List ℕ) (used k : ℕ) (l' : List ℕ) : Type 0 where
  pub end : k ≡ used + length x
  pub room : k ≤ length l
  pub bytes : l' ≡ stored l used x

abbrev pub Appended : List ℕ → List ℕ → ℕ → Option ℕ → List ℕ → Type 0
Appended x l used (Some k) l' = Placed x l used k l'
Appended x l used None l' = length l < used + length x
