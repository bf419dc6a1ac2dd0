-- A value in quotation marks by place, as code follows it.
-- Assumes nothing.
use Rattle.std.specs.Prelude.{ℕ, ◌+◌, ◌-◌, Bool, not, ◌&&◌, List, [], ◌∷◌, eqb, take, drop}
use Rattle.std.specs.Prelude.{Option, None, Some}
use Rattle.lists.specs.Lists.{pick}
use Rattle.lists.specs.Runs.{Part}

-- the place of the closing mark, in a list that starts at place i, behind a backslash or not
unfoldable pub close_end : Bool → List ℕ → ℕ → Option ℕ
close_end escaped [] i = None
close_end escaped (b ∷ bs) i = pick (eqb b 34 && not escaped) (Some i) (close_end (eqb b 92) bs (i + 1))

-- a list that starts at place i, cut at the place of its closing mark
abbrev pub cut_at : Option ℕ → ℕ → List ℕ → Option (Part (List ℕ))
cut_at None i bs = None
cut_at (Some c) i bs = Some (record { value = take (c - i) bs; rest = drop (c - i + 1) bs })

-- what a byte as written adds to a value's length: a mark that does not close stands for its backslash too
abbrev pub weight : ℕ → ℕ
weight b = pick (eqb b 34) 0 1

unfoldable pub weights : List ℕ → ℕ
weights [] = 0
weights (b ∷ bs) = weight b + weights bs
