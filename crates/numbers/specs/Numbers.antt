-- The 8 numbers that a call writes of an answer.
-- Assumes nothing.
use Rattle.std.specs.Prelude.{ℕ, List, [], ◌∷◌}
use Rattle.text.specs.Run.{Answer}

abbrev pub most_numbers : ℕ
most_numbers = 8

-- number, line, visited, used, tried (document 02, Item 9), then zeros
abbrev pub numbers : Answer → List ℕ
numbers a = a.number ∷ a.line ∷ a.visited ∷ a.used ∷ a.tried ∷ 0 ∷ 0 ∷ 0 ∷ []
