-- Document 01, Packed records: bits run most significant first.
-- Assumes nothing.
use Rattle.std.specs.Prelude.{ℕ, zero, suc, ◌+◌, ◌*◌, ◌/◌, ◌%◌, ◌^◌, List, [], ◌∷◌, ◌++◌, length, take, drop}
use Rattle.lists.specs.Lists.{cat}

-- the low n bits of a number
unfoldable pub to_bits : ℕ → ℕ → List ℕ
to_bits zero v = []
to_bits (suc n) v = v / 2 ^ n % 2 ∷ to_bits n v

-- the number that bits make
unfoldable pub from_bits : List ℕ → ℕ
from_bits [] = 0
from_bits (b ∷ bs) = b * 2 ^ length bs + from_bits bs

-- the bits of bytes, eight of each
unfoldable pub bits_of : List ℕ → List ℕ
bits_of s = cat (to_bits 8) s

-- the first k bytes that bits make
unfoldable pub bytes_of : ℕ → List ℕ → List ℕ
bytes_of zero bs = []
bytes_of (suc k) bs = from_bits (take 8 bs) ∷ bytes_of k (drop 8 bs)

-- the number that stands in the n bits from bit `at` of some bytes on
unfoldable pub number_at : List ℕ → ℕ → ℕ → ℕ
number_at s at n = from_bits (take n (drop at (bits_of s)))

-- bits with the low n bits of v from bit `at` on
unfoldable pub put_bits : List ℕ → ℕ → ℕ → ℕ → List ℕ
put_bits bs at n v = take at bs ++ (to_bits n v ++ drop (at + n) bs)

-- bytes with the low n bits of v from bit `at` on
unfoldable pub put_at : List ℕ → ℕ → ℕ → ℕ → List ℕ
put_at s at n v = bytes_of (length s) (put_bits (bits_of s) at n v)
