-- Worked examples of answer sheets, by one computed claim: what is sound, and what is refusal 6.
-- Assumes nothing.
use Prim.Native.Nat.{ℕ, zero, suc, ◌+◌}
use Prim.Native.String.{String}
use mathlib.Core.Path.{◌≡◌, refl}
use mathlib.Core.Bool.{Bool, true, false, not}
use mathlib.Core.List.{List, [], ◌∷◌, ◌++◌}
use Rattle.std.specs.Prelude.{Option, None, Some}
use lib.Dec.{eqb}
use lib.ListN.{length, take, set, replicate}
use Rattle.lists.specs.Lists.{is_some}
use Rattle.lists.specs.Bytes.{same_bytes}
use Rattle.bits.specs.Bits.{to_bits, from_bits, bits_of, bytes_of, number_at}
use Rattle.bits.specs.Fields.{packed}
use Rattle.sheet.specs.Sheet.{Reply, Sheet, encode, decode}

pub data Case : Type 0 where
  sound : String → List ℕ → Case
  faulty : String → List ℕ → Case
  -- a packing of so many bytes
  sized : String → ℕ → List ℕ → Case

abbrev packs : Option Sheet → List ℕ → Bool
packs None bs = false
packs (Some rs) bs = same_bytes (encode rs) bs

unfoldable pub right : Case → Bool
unfolding same_bytes to_bits from_bits bits_of bytes_of number_at packed encode decode
right (sound name bs) = packs (decode bs) bs
right (faulty name bs) = not (is_some (decode bs))
right (sized name n bs) = eqb (length bs) n

abbrev label : Case → String
label (sound name bs) = name
label (faulty name bs) = name
label (sized name n bs) = name

unfoldable pub wrong : List Case → List String
unfolding right
wrong [] = []
wrong (c ∷ cs) = elim (right c) [ true ↦ wrong cs | false ↦ label c ∷ wrong cs ]

reply : Bool → List ℕ → List ℕ → Reply
reply good c o = record { success = good; command = c; output = o }

one : List ℕ → List ℕ → List ℕ
unfolding encode reply
one c o = encode (reply true c o ∷ [])

-- n entries with commands of k bytes that begin with different bytes, and outputs of m bytes
replies : ℕ → ℕ → ℕ → Sheet
unfolding reply
replies zero k m = []
replies (suc n) k m = reply false (take k ((1 + n) ∷ replicate 512 120)) (replicate m 10) ∷ replies n k m

many : ℕ → ℕ → ℕ → List ℕ
unfolding encode replies
many n k m = encode (replies n k m)

-- by hand: one success, command `q`, output `ab`
small : List ℕ
small = 1 ∷ 128 ∷ 32 ∷ 16 ∷ 113 ∷ 97 ∷ 98 ∷ []

pub examples : List Case
unfolding encode reply one replies many small
examples =
    sound "no entries" (0 ∷ [])
    ∷ sound "by hand" small
    ∷ sound "two by hand" (2 ∷ 0 ∷ 32 ∷ 0 ∷ 97 ∷ 128 ∷ 32 ∷ 0 ∷ 98 ∷ [])
    ∷ faulty "no bytes" []
    ∷ faulty "a byte more" (small ++ (0 ∷ []))
    ∷ faulty "a byte less" (take 6 small)
    ∷ faulty "head cut short" (1 ∷ 128 ∷ 32 ∷ [])
    ∷ faulty "an entry missing" (set small 0 2)
    ∷ faulty "unused bits" (set small 3 17)
    ∷ faulty "empty command" (one [] (97 ∷ []))
    ∷ sound "empty output" (one (97 ∷ []) [])
    ∷ sound "512 and 512" (one (replicate 512 97) (replicate 512 255))
    ∷ faulty "command of 513" (one (replicate 513 97) [])
    ∷ faulty "output of 513" (one (97 ∷ []) (replicate 513 97))
    ∷ faulty "NUL in a command" (one (97 ∷ 0 ∷ []) [])
    ∷ faulty "NUL in an output" (one (97 ∷ []) (0 ∷ []))
    ∷ faulty "equal commands" (2 ∷ 0 ∷ 32 ∷ 0 ∷ 97 ∷ 128 ∷ 32 ∷ 0 ∷ 97 ∷ [])
    ∷ sound "64 entries" (many 64 2 1)
    ∷ faulty "65 entries" (many 65 2 1)
    ∷ sized "32,577" 32577 (many 64 506 0)
    ∷ sound "64 entries of 509 bytes" (many 64 506 0)
    ∷ sized "32,769" 32769 (many 64 508 1)
    ∷ faulty "32,769 bytes" (many 64 508 1)
    ∷ []

pub shown : wrong examples ≡ []
unfolding wrong examples
shown = refl
