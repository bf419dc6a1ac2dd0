-- Laws of items read one after the other.
-- Assumes nothing.
use Prim.Native.Nat.{ℕ, zero, suc}
use mathlib.Core.Path.{◌≡◌, refl, ap}
use mathlib.Core.List.{List, [], ◌∷◌}
use Rattle.std.specs.Prelude.{Option, None, Some}
use lib.ListN.{drop}
use lib.Seq.{drop-nil}
use Rattle.lists.specs.Items.{Item, before, items}

module _ {A : Type 0} (f : ℕ → List ℕ → Option (Item A)) where
  -- behind k bytes of an item
  pub items-skip : (k : ℕ) (bs : List ℕ) → items f k bs ≡ items f 0 (drop k bs)
  unfolding items
  items-skip k [] = rw (drop-nil {A = ℕ} k)
  items-skip zero (b ∷ bs) = refl
  items-skip (suc k) (b ∷ bs) = items-skip k bs

  -- an item, and the items from its end on
  pub items_at : (b : ℕ) (bs : List ℕ) (i : Item A) → f b bs ≡ Some i → items f 0 (b ∷ bs) ≡ before i.value (items f 0 (drop i.more bs))
  unfolding items
  items_at b bs i h = rw h (ap (before i.value) (items-skip i.more bs))

  -- a fault
  pub items-bad : (b : ℕ) (bs : List ℕ) → f b bs ≡ None → items f 0 (b ∷ bs) ≡ None
  unfolding items
  items-bad b bs h = rw h
