-- Document 02, Items 7, 11 and 14: the bytes of a lent set, which are the number of its entries and then the entries.
-- Assumes nothing.
use Rattle.std.specs.Prelude.{ℕ, Bool, true, false, List, [], ◌∷◌, ◌++◌, leb, length}
use Rattle.std.specs.Prelude.{Option, None, Some}
use Rattle.lists.specs.Lists.{cat}
use Rattle.lists.specs.Bytes.{between}
use Rattle.bits.specs.Bits.{number_at}
use Rattle.bits.specs.Fields.{Field, packed}
use Rattle.entries.specs.Parse.{Parse, got, bad, bind, many}
use Rattle.entries.specs.Entry.{exactly}

-- ---- a long text: a record or a rules text, sound or not

-- no longer one has a place in a set
abbrev pub most_long : ℕ
most_long = 65535

abbrev pub ok_long : List ℕ → Bool
ok_long x = leb (length x) most_long

-- its head: the length in 16 bits
abbrev pub long_fields : ℕ → List Field
long_fields n = (16, n) ∷ []

abbrev pub enc_long : List ℕ → List ℕ
enc_long x = packed (long_fields (length x)) ++ x

abbrev pub one_long : List ℕ → Parse (List ℕ)
one_long bs = bind (exactly 2 bs) (λ head r. exactly (number_at head 0 16) r)

-- ---- a set

-- the number of entries in 8 bits, then each entry
unfoldable pub encode_set : {A : Type 0} → (A → List ℕ) → List A → List ℕ
encode_set enc xs = length xs ∷ cat enc xs

-- what was read, if no byte is left
abbrev pub whole : {A : Type 0} → Parse A → Option A
whole bad = None
whole (got a (b ∷ bs)) = None
whole (got a []) = Some a

-- the sets of `least` to `most` entries, and no others (refusal 7)
unfoldable pub decode_set : {A : Type 0} → ℕ → ℕ → (List ℕ → Parse A) → List ℕ → Option (List A)
decode_set least most one [] = None
decode_set least most one (n ∷ bs) = elim (between least most n) [ true ↦ whole (many one n bs) | false ↦ None ]
