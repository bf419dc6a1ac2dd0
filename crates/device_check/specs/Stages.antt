-- The stages of the check, each as far as its function judges.
-- Assumes nothing.
use Rattle.std.specs.Prelude.{ℕ, zero, suc, Bool, false, ◌&&◌, List, [], leb, take}
use Rattle.lists.specs.Lists.{is_empty}
use Rattle.lists.specs.Bytes.{clean, distinct}
use Rattle.lists.specs.Sizes.{most_path}
use Rattle.entries.specs.Parse.{Parse, got, bad, keep}
use Rattle.entries.specs.Entry.{Property, keys}
use Rattle.device.specs.Device.{Member, ok_path, cut_of, one_member}

-- the three texts of a device, one behind the other, of which the first n bytes are the path
abbrev pub ok_texts : ℕ → List ℕ → Bool
ok_texts n texts = leb 1 n && (leb n most_path && (clean texts && ok_path (take n texts)))

-- a row in which no key stands twice
abbrev pub apart : Parse (List Property) → Parse (List Property)
apart bad = bad
apart (got ps r) = keep (distinct (keys ps)) ps r

-- a device above the one with the path `child`, and what follows it
abbrev pub above_then : Parse Member → List ℕ → (List ℕ → List ℕ → Bool) → Bool
above_then bad child others = false
above_then (got m r) child others = cut_of m.path child && others m.path r

-- n devices and nothing after them, each a parent of the one before it, the first of the one with the path `child`
unfoldable pub parents_in : List ℕ → ℕ → List ℕ → Bool
parents_in child zero bs = is_empty bs
parents_in child (suc n) bs = above_then (one_member bs) child (λ path r. parents_in path n r)
