-- What the line of a refused listing says.
-- Assumes nothing.
use Rattle.std.specs.Prelude.{ℕ, List, [], ◌∷◌, ◌++◌}
use Rattle.lists.specs.Quoted.{bytes}
use Rattle.template.specs.Decimal.{decimal}

-- the line of a refusal, by its number and its line
abbrev pub refusal_line : ℕ → ℕ → List ℕ
unfolding bytes
refusal_line number line = bytes "refused " ++ (decimal number ++ (bytes " line " ++ (decimal line ++ (10 ∷ []))))
