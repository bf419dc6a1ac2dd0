-- The pairs of an accepted line one by one, as code that runs a rule reads them again.
-- Assumes nothing.
use Rattle.std.specs.Prelude.{ℕ, ◌≡◌, List, [], ◌∷◌}
use Rattle.lists.specs.Checked.{ok}
use Rattle.rules.specs.Pair.{Pair}
use Rattle.rules.specs.Reading.{read_pair}

-- bytes that read as these pairs and no more, with a comma between each two
abbrev pub Pairs : List ℕ → List Pair → Type 0
Pairs bs [] = ⊥
Pairs bs (p ∷ []) = read_pair bs ≡ ok (record { value = p; rest = [] })
Pairs bs (p ∷ q ∷ ps) = (rest : List ℕ) × (read_pair bs ≡ ok (record { value = p; rest = 44 ∷ rest })) × Pairs rest (q ∷ ps)
