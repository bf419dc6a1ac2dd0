-- Fields packed one behind the other.
-- Assumes nothing.
use Rattle.std.specs.Prelude.{ℕ, ◌+◌, ◌/◌, Bool, true, false, List, [], ◌∷◌, eqb}
use Rattle.lists.specs.Lists.{cat}
use Rattle.bits.specs.Bits.{to_bits, bytes_of, number_at}

-- how many bits, and the number
abbrev pub Field : Type 0
Field = ℕ × ℕ

-- how many bits some fields have
abbrev pub width : List Field → ℕ
width [] = 0
width (f ∷ fs) = f.0 + width fs

-- the bits of fields, in order
abbrev pub field_bits : List Field → List ℕ
field_bits fs = cat (λ f. to_bits f.0 f.1) fs

-- the bytes that fields make; their width is a multiple of 8
unfoldable pub packed : List Field → List ℕ
packed fs = bytes_of (width fs / 8) (field_bits fs)

-- the fields that bytes hold from bit `at` on, by their widths
abbrev pub fields_at : List ℕ → ℕ → List ℕ → List Field
fields_at s at [] = []
fields_at s at (n ∷ ns) = (n, number_at s at n) ∷ fields_at s (at + n) ns

-- a flag as one bit
abbrev pub bit : Bool → ℕ
bit true = 1
bit false = 0

-- the flag at a bit of some bytes
abbrev pub flag_at : List ℕ → ℕ → Bool
flag_at bs at = eqb (number_at bs at 1) 1
