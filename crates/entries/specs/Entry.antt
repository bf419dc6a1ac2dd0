-- Document 01, Packed records: entries that records and sets hold, a text behind its length and a property.
-- Assumes nothing.
use Rattle.std.specs.Prelude.{ℕ, ◌+◌, Bool, true, false, ◌&&◌, List, [], ◌∷◌, ◌++◌, map, length, take, drop, leb}
use Rattle.std.specs.Prelude.{Option, None, Some}
use Rattle.lists.specs.Lists.{pick}
use Rattle.lists.specs.Bytes.{same_bytes, clean, ok_text}
use Rattle.lists.specs.Sizes.{most_key, most_value}
use Rattle.bits.specs.Bits.{number_at}
use Rattle.bits.specs.Fields.{Field, packed}
use Rattle.entries.specs.Parse.{Parse, bad, bind, keep}

-- n bytes
abbrev pub exactly : ℕ → List ℕ → Parse (List ℕ)
exactly n bs = keep (leb n (length bs)) (take n bs) (drop n bs)

-- a text behind its length of 8 bits: links and tags, and in sets the names of files and wanted links
abbrev pub enc_text : List ℕ → List ℕ
enc_text x = length x ∷ x

-- such a text, if it passes the test
abbrev pub one_text : (List ℕ → Bool) → List ℕ → Parse (List ℕ)
one_text ok [] = bad
one_text ok (k ∷ bs) = keep (leb k (length bs) && ok (take k bs)) (take k bs) (drop k bs)

-- a property, or an attribute: they are laid out alike
pub record Property : Type 0 where
  pub key : List ℕ
  pub value : List ℕ

-- document 01, Sizes: a key of 1 to 64 bytes, a value of at most 256; no NUL
abbrev pub ok_prop : Property → Bool
ok_prop p = ok_text most_key p.key && (leb (length p.value) most_value && clean p.value)

-- the head of a property: key length 7, value length 9
abbrev pub prop_fields : ℕ → ℕ → List Field
prop_fields k v = (7, k) ∷ (9, v) ∷ []

-- a property as its head and the bytes of both
abbrev pub enc_prop : Property → List ℕ
enc_prop p = packed (prop_fields (length p.key) (length p.value)) ++ (p.key ++ p.value)

-- a property of which the key has k bytes and the value v
abbrev pub prop_at : ℕ → ℕ → List ℕ → Property
prop_at k v bs = record { key = take k bs; value = take v (drop k bs) }

-- a sound one of these lengths
abbrev pub prop_on : ℕ → ℕ → List ℕ → Parse Property
prop_on k v bs = keep (leb (k + v) (length bs) && ok_prop (prop_at k v bs)) (prop_at k v bs) (drop (k + v) bs)

abbrev pub one_prop : List ℕ → Parse Property
one_prop bs = bind (exactly 2 bs) (λ head r. prop_on (number_at head 0 7) (number_at head 7 9) r)

abbrev pub keys : List Property → List (List ℕ)
keys ps = map (λ (p : Property). p.key) ps

-- the value under a key: absent and empty stay apart
abbrev pub lookup : List ℕ → List Property → Option (List ℕ)
lookup k [] = None
lookup k (p ∷ ps) = pick (same_bytes p.key k) (Some p.value) (lookup k ps)

-- what is missing reads as the empty value
abbrev pub or_empty : Option (List ℕ) → List ℕ
or_empty None = []
or_empty (Some v) = v
