-- A template read piece by piece.
-- Assumes nothing.
use Prim.Native.Nat.{ℕ}
use mathlib.Core.Path.{◌≡◌, refl}
use mathlib.Core.List.{List, [], ◌∷◌}
use Rattle.std.specs.Prelude.{None, Some}
use lib.ListN.{drop}
use Rattle.lists.specs.Items.{Item, before, items}
use Rattle.lists.proofs.Items.{items_at, items-bad}
use Rattle.template.specs.Template.{Piece, piece_at, pieces}

pub pieces_end : pieces [] ≡ Some []
unfolding pieces items
pieces_end = refl

pub pieces_at : (b : ℕ) (bs : List ℕ) (i : Item Piece) → piece_at b bs ≡ Some i → pieces (b ∷ bs) ≡ before i.value (pieces (drop i.more bs))
unfolding pieces
pieces_at b bs i h = items_at piece_at b bs i h

pub pieces-bad : (b : ℕ) (bs : List ℕ) → piece_at b bs ≡ None → pieces (b ∷ bs) ≡ None
unfolding pieces
pieces-bad b bs h = items-bad piece_at b bs h
