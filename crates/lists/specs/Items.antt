-- Items read one after the other from a list of bytes, and a text in braces.
-- Assumes nothing.
use Rattle.std.specs.Prelude.{ℕ, zero, suc, Bool, true, false, not, List, [], ◌∷◌, eqb, length}
use Rattle.std.specs.Prelude.{Option, None, Some}
use Rattle.lists.specs.Lists.{pick}
use Rattle.lists.specs.Bytes.{between}
use Rattle.lists.specs.Runs.{Part, span}
use Rattle.lists.specs.Sizes.{most_key}

-- an item at the head of a list, and how many bytes it takes beyond the first
pub record Item (A : Type 0) : Type 0 where
  pub value : A
  pub more : ℕ

abbrev pub before : {A : Type 0} → A → Option (List A) → Option (List A)
before a None = None
before a (Some others) = Some (a ∷ others)

abbrev pub item_then : {A : Type 0} → Option (Item A) → (ℕ → Option (List A)) → Option (List A)
item_then None others = None
item_then (Some i) others = before i.value (others i.more)

-- the items of a list, where k bytes still belong to the item before; none if one of them has a fault
unfoldable pub items : {A : Type 0} → (ℕ → List ℕ → Option (Item A)) → ℕ → List ℕ → Option (List A)
items f k [] = Some []
items f zero (b ∷ bs) = item_then (f b bs) (λ more. items f more bs)
items f (suc k) (b ∷ bs) = items f k bs

-- ---- braces

abbrev pub is_in_braces : ℕ → Bool
is_in_braces b = not (eqb b 125)

abbrev pub close_brace : List ℕ → List ℕ → Option (Part (List ℕ))
close_brace inside [] = None
close_brace inside (b ∷ rest) = pick (between 1 most_key (length inside)) (Some (record { value = inside; rest = rest })) None

-- what stands behind an opening brace: 1 to 64 bytes up to the next closing one
unfoldable pub in_braces : List ℕ → Option (Part (List ℕ))
in_braces bs =
    let inside = span is_in_braces bs in
    close_brace inside.value inside.rest
