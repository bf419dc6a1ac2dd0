-- Document 01, Running: what assigning does to one list or to the properties, with refusal 32.
-- Assumes nothing.
use Rattle.std.specs.Prelude.{ℕ, true, false, List, [], ◌∷◌, ◌++◌, ltb, length}
use Rattle.lists.specs.Lists.{pick, reject}
use Rattle.lists.specs.Bytes.{same_bytes, among}
use Rattle.lists.specs.Checked.{Checked, refused, ok}
use Rattle.lists.specs.Refusal.{Refusal, list_full}
use Rattle.lists.specs.Sizes.{most_properties}
use Rattle.entries.specs.Entry.{Property, keys}

-- at the end, if there is room for one more
abbrev pub append : {A : Type 0} → ℕ → A → List A → Checked Refusal (List A)
append most x xs = elim (ltb (length xs) most) [ true ↦ ok (xs ++ (x ∷ [])) | false ↦ refused list_full ]

-- ---- links and tags

-- what is not there yet is added at the end
unfoldable pub add_entry : ℕ → List ℕ → List (List ℕ) → Checked Refusal (List (List ℕ))
add_entry most x xs = elim (among x xs) [ true ↦ ok xs | false ↦ append most x xs ]

abbrev pub remove_entry : List ℕ → List (List ℕ) → List (List ℕ)
remove_entry x xs = reject (λ y. same_bytes y x) xs

-- ---- properties

abbrev pub property : List ℕ → List ℕ → Property
property k v = record { key = k; value = v }

abbrev pub remove_property : List ℕ → List Property → List Property
remove_property k ps = reject (λ p. same_bytes p.key k) ps

-- a kept key keeps its position
unfoldable pub replace_property : List ℕ → List ℕ → List Property → List Property
replace_property k v [] = []
replace_property k v (p ∷ ps) = pick (same_bytes p.key k) (property k v ∷ ps) (p ∷ replace_property k v ps)

-- a new one goes last
unfoldable pub set_property : List ℕ → List ℕ → List Property → Checked Refusal (List Property)
set_property k v ps = elim (among k (keys ps)) [ true ↦ ok (replace_property k v ps) | false ↦ append most_properties (property k v) ps ]
