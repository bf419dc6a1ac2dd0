-- An alternative read element by element: what it matches by its first element and by what is left.
-- Assumes nothing.
use Prim.Native.Nat.{ℕ}
use mathlib.Core.Path.{◌≡◌, refl, sym}
use mathlib.Core.Bool.{Bool, false}
use mathlib.Core.List.{List, [], ◌∷◌}
use Rattle.std.specs.Prelude.{Option, None, Some}
use lib.ListN.{drop}
use Rattle.lists.specs.Lists.{is_empty}
use Rattle.lists.specs.Items.{Item, before, items}
use Rattle.lists.proofs.Tests.{and-false}
use Rattle.lists.proofs.Items.{items_at, items-bad}
use Rattle.pattern.specs.Pattern.{Element, star, one, byte, set, element_at, elements, takes, eats, any_suffix, fits, fits_of, alternative_matches}

-- ---- the elements one by one

pub elements_at : (b : ℕ) (bs : List ℕ) (i : Item Element) → element_at b bs ≡ Some i → elements (b ∷ bs) ≡ before i.value (elements (drop i.more bs))
unfolding elements
elements_at b bs i h = items_at element_at b bs i h

pub elements-bad : (b : ℕ) (bs : List ℕ) → element_at b bs ≡ None → elements (b ∷ bs) ≡ None
unfolding elements
elements-bad b bs h = items-bad element_at b bs h

-- ---- what is matched

none_suffix : (v : List ℕ) → any_suffix (λ (ys : List ℕ). false) v ≡ false
unfolding any_suffix
none_suffix [] = refl
none_suffix (x ∷ v) = none_suffix v

none_eaten : (g : ℕ → Bool) (v : List ℕ) → eats g (λ (ys : List ℕ). false) v ≡ false
unfolding eats
none_eaten g [] = refl
none_eaten g (x ∷ v) = and-false (g x)

fits-star : (o : Option (List Element)) (v : List ℕ) → fits_of (before star o) v ≡ any_suffix (fits_of o) v
unfolding fits
fits-star None v = sym (none_suffix v)
fits-star (Some es) v = refl

-- an element that is no star
abbrev pub Single : Element → Type 0
Single star = ⊥
Single one = Unit {0}
Single (byte a) = Unit {0}
Single (set opposite rs) = Unit {0}

fits-single : (e : Element) → Single e → (o : Option (List Element)) (v : List ℕ) → fits_of (before e o) v ≡ eats (takes e) (fits_of o) v
unfolding fits
fits-single star s o v = elim s [ ]
fits-single one s None v = sym (none_eaten (takes one) v)
fits-single one s (Some es) v = refl
fits-single (byte a) s None v = sym (none_eaten (takes (byte a)) v)
fits-single (byte a) s (Some es) v = refl
fits-single (set opposite rs) s None v = sym (none_eaten (takes (set opposite rs)) v)
fits-single (set opposite rs) s (Some es) v = refl

pub match_empty : (v : List ℕ) → alternative_matches [] v ≡ is_empty v
unfolding alternative_matches elements items fits
match_empty v = refl

pub match_star : (bs v : List ℕ) → alternative_matches (42 ∷ bs) v ≡ any_suffix (alternative_matches bs) v
unfolding alternative_matches
match_star bs v = rw (elements_at 42 bs (record { value = star; more = 0 }) refl) (fits-star (elements bs) v)

module _ (b : ℕ) (bs : List ℕ) where
  pub match_single : (e : Element) (n : ℕ) → element_at b bs ≡ Some (record { value = e; more = n }) → Single e
      → (v : List ℕ) → alternative_matches (b ∷ bs) v ≡ eats (takes e) (alternative_matches (drop n bs)) v
  unfolding alternative_matches
  match_single e n h s v = rw (elements_at b bs (record { value = e; more = n }) h) (fits-single e s (elements (drop n bs)) v)

  pub match_fault : element_at b bs ≡ None → (v : List ℕ) → alternative_matches (b ∷ bs) v ≡ false
  unfolding alternative_matches
  match_fault h v = rw (elements-bad b bs h)
