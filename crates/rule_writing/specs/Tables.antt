-- A table whose rules can be written, and what writing them answers.
-- Assumes nothing.
use Rattle.std.specs.Prelude.{ℕ, ◌+◌, ◌*◌, ◌≤◌, ◌<◌, List, ◌∷◌, length, get_or}
use Rattle.std.specs.Prelude.{Option, None, Some}
use Rattle.lists.specs.Lists.{cat}
use Rattle.lists.specs.Sizes.{most_text}
use Rattle.insertion.specs.Append.{Placed}
use Rattle.rules.specs.Pair.{Pair}
use Rattle.table.specs.Table.{Segment}
use Rattle.writing.specs.Writing.{pair_text}

-- pairs of a rule behind its first, each behind a comma
abbrev pub others : List Pair → List ℕ
others ps = cat (λ (p : Pair). 44 ∷ pair_text p) ps

-- n rules, each from a row up to another, whose rows keep to the values
pub record RulesIn (v r t : List ℕ) (n : ℕ) : Type 0 where
  pub room : n * 4 ≤ length t
  pub ordered : (i : ℕ) → i < n → get_or t (i * 4 + 1) 0 ≤ get_or t (i * 4 + 2) 0
  pub rows : (i : ℕ) → i < n → Segment v r (get_or t (i * 4 + 2) 0)

-- the text x stands at the start of l, which is then l'; or it is longer than a text may be
abbrev pub WrittenIs : List ℕ → List ℕ → Option ℕ → List ℕ → Type 0
WrittenIs x l (Some k) l' = Placed x l 0 k l' × (k ≤ most_text)
WrittenIs x l None l' = most_text < length x
