-- Worked examples of the moves.
-- Assumes nothing.
use Prim.Native.Nat.{ℕ}
use mathlib.Core.Path.{◌≡◌, refl}
use mathlib.Core.List.{List, [], ◌∷◌}
use Rattle.splice.specs.Moves.{stored, opened, inserted, removed, shifted, replaced, padded}

-- three bytes in use of six
t : List ℕ
t = padded 6 (1 ∷ 2 ∷ 3 ∷ [])

over : stored t 1 (8 ∷ 9 ∷ []) ≡ 1 ∷ 8 ∷ 9 ∷ 0 ∷ 0 ∷ 0 ∷ []
unfolding t
over = refl

gap : opened t 1 3 2 ≡ 1 ∷ 2 ∷ 3 ∷ 2 ∷ 3 ∷ 0 ∷ []
unfolding t
gap = refl

put_in : inserted t 1 3 (8 ∷ 9 ∷ []) ≡ 1 ∷ 8 ∷ 9 ∷ 2 ∷ 3 ∷ 0 ∷ []
unfolding t
put_in = refl

taken_out : removed t 0 3 2 ≡ 3 ∷ 0 ∷ 0 ∷ 0 ∷ 0 ∷ 0 ∷ []
unfolding t
taken_out = refl

back : shifted t 2 1 3 ≡ 1 ∷ 3 ∷ 0 ∷ 0 ∷ 0 ∷ 0 ∷ []
unfolding t
back = refl

longer : replaced t 1 1 3 (7 ∷ 8 ∷ 9 ∷ []) ≡ 1 ∷ 7 ∷ 8 ∷ 9 ∷ 3 ∷ 0 ∷ []
unfolding t
longer = refl

shorter : replaced t 0 2 3 (7 ∷ []) ≡ 7 ∷ 3 ∷ 0 ∷ 0 ∷ 0 ∷ 0 ∷ []
unfolding t
shorter = refl
