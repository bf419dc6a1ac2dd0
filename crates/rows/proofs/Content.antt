-- The search for NUL.
-- Assumes nothing.
use Rattle.std.proofs.Common.{◌≡◌, refl, ℕ, Bool, true, false, not, ◌&&◌, ◌||◌, List, [], ◌∷◌, eqb}
use Rattle.std.specs.List.{list_any}
use Rattle.lists.specs.Bytes.{clean}

pub no_nul : (s : List ℕ) → not (list_any (λ y. eqb y 0) s) ≡ clean s
no_nul [] = refl
no_nul (b ∷ bs) = go (eqb b 0) (no_nul bs)
  where
    go : (t : Bool) → not (list_any (λ y. eqb y 0) bs) ≡ clean bs → not (t || list_any (λ y. eqb y 0) bs) ≡ (not t && clean bs)
    go true h = refl
    go false h = h
