-- Worked examples: fields that cross bytes, whole headers, both ends of the numbers of 32 bits,
-- and fields of document 01's records by arithmetic on their bytes.
-- Assumes nothing.
use Prim.Native.Nat.{ℕ, ◌+◌, ◌*◌, ◌/◌, ◌%◌, ◌^◌, ◌≤◌, ◌<◌}
use mathlib.Core.Path.{◌≡◌, refl, ◌∙◌}
use mathlib.Core.List.{List, [], ◌∷◌, map}
use native.Mathlib.Omega.{arith}
use lib.IntN.{pos, negsuc}
use lib.ListN.{length, get_or}
use Rattle.lists.specs.Bytes.{Bytes}
use Rattle.bits.specs.Bits.{to_bits, from_bits, bits_of, bytes_of, number_at, put_bits, put_at}
use Rattle.bits.specs.Fields.{Field, packed, fields_at}
use Rattle.bits.specs.Signed.{to_signed, from_signed}
use Rattle.bits.proofs.Numbers.{number_in}
use Rattle.bits.proofs.Fields.{packed-digits}

-- ---- by computation

bits_of_number : to_bits 5 19 ≡ 1 ∷ 0 ∷ 0 ∷ 1 ∷ 1 ∷ []
unfolding to_bits
bits_of_number = refl

bits_of_bytes : bits_of (129 ∷ 64 ∷ []) ≡ 1 ∷ 0 ∷ 0 ∷ 0 ∷ 0 ∷ 0 ∷ 0 ∷ 1 ∷ 0 ∷ 1 ∷ 0 ∷ 0 ∷ 0 ∷ 0 ∷ 0 ∷ 0 ∷ []
unfolding to_bits bits_of
bits_of_bytes = refl

-- 6 bits across two bytes
across : number_at (18 ∷ 52 ∷ 86 ∷ []) 4 6 ≡ 8
unfolding to_bits from_bits bits_of number_at
across = refl

put_across : put_at (255 ∷ 255 ∷ 255 ∷ []) 4 6 8 ≡ 242 ∷ 63 ∷ 255 ∷ []
unfolding to_bits from_bits bits_of bytes_of put_bits put_at
put_across = refl

-- an outcome record's header: edition 1, links and mode closed, owner of 4 bytes, no group, mode 640, priority -2, 1 link, 2 properties, 3 tags, 4 runs
header : List Field
header = (4, 1) ∷ (6, 33) ∷ (6, 4) ∷ (6, 0) ∷ (1, 1) ∷ (12, 416) ∷ (32, 4294967294) ∷ (5, 1) ∷ (6, 2) ∷ (5, 3) ∷ (5, 4) ∷ []

header-bytes : packed header ≡ 24 ∷ 68 ∷ 2 ∷ 52 ∷ 31 ∷ 255 ∷ 255 ∷ 255 ∷ 193 ∷ 8 ∷ 100 ∷ []
unfolding header to_bits from_bits bytes_of packed
header-bytes = refl

widths : List ℕ
widths = 4 ∷ 6 ∷ 6 ∷ 6 ∷ 1 ∷ 12 ∷ 32 ∷ 5 ∷ 6 ∷ 5 ∷ 5 ∷ []

header_read : fields_at (packed header) 0 widths ≡ header
unfolding header widths to_bits from_bits bits_of bytes_of number_at packed
header_read = refl

-- ---- numbers of 32 bits

ends : map to_signed (0 ∷ 1 ∷ 2147483647 ∷ 2147483648 ∷ 4294967295 ∷ []) ≡ pos 0 ∷ pos 1 ∷ pos 2147483647 ∷ negsuc 2147483647 ∷ negsuc 0 ∷ []
ends = refl

ends-back : map from_signed (pos 2147483647 ∷ negsuc 2147483647 ∷ negsuc 0 ∷ negsuc 1 ∷ []) ≡ 2147483647 ∷ 2147483648 ∷ 4294967295 ∷ 4294967294 ∷ []
ends-back = refl

-- ---- fields of an outcome record's header

module _ (s : List ℕ) (h : 11 ≤ length s) (b : Bytes s) where
  edition : number_at s 0 4 ≡ get_or s 0 0 / 16
  edition = number_in s 0 4 0 1 0 4 refl refl (omega arith) b ∙ omega (arith, b 0)

  closed : number_at s 4 6 ≡ get_or s 0 0 % 16 * 4 + get_or s 1 0 / 64
  closed = number_in s 4 6 0 2 4 6 refl refl (omega arith) b ∙ omega (arith, b 0, b 1)

  mode : number_at s 23 12 ≡ get_or s 2 0 % 2 * 2048 + get_or s 3 0 * 8 + get_or s 4 0 / 32
  mode = number_in s 23 12 2 3 7 5 refl refl (omega arith) b ∙ omega (arith, b 2, b 3, b 4)

  priority : number_at s 35 32 ≡ get_or s 4 0 % 32 * 134217728 + get_or s 5 0 * 524288 + get_or s 6 0 * 2048 + get_or s 7 0 * 8 + get_or s 8 0 / 32
  priority = number_in s 35 32 4 5 3 5 refl refl (omega arith) b ∙ omega (arith, b 4, b 5, b 6, b 7, b 8)

  tags : number_at s 78 5 ≡ get_or s 9 0 % 4 * 8 + get_or s 10 0 / 32
  tags = number_in s 78 5 9 2 6 5 refl refl (omega arith) b ∙ omega (arith, b 9, b 10)

-- ---- fields of a device record's header, and of a device of its chain at byte i

module _ (s : List ℕ) (h : 7 ≤ length s) (b : Bytes s) where
  action : number_at s 8 3 ≡ get_or s 1 0 / 32
  action = number_in s 8 3 1 1 0 5 refl refl (omega arith) b ∙ omega (arith, b 1)

  major : number_at s 12 12 ≡ get_or s 1 0 % 16 * 256 + get_or s 2 0
  major = number_in s 12 12 1 2 4 0 refl refl (omega arith) b ∙ omega (arith, b 1, b 2)

  minor : number_at s 24 20 ≡ get_or s 3 0 * 4096 + get_or s 4 0 * 16 + get_or s 5 0 / 16
  minor = number_in s 24 20 3 3 0 4 refl refl (omega arith) b ∙ omega (arith, b 3, b 4, b 5)

  property-count : number_at s 44 6 ≡ get_or s 5 0 % 16 * 4 + get_or s 6 0 / 64
  property-count = number_in s 44 6 5 2 4 6 refl refl (omega arith) b ∙ omega (arith, b 5, b 6)

module _ (s : List ℕ) (i : ℕ) (h : i + 4 ≤ length s) (b : Bytes s) where
  path-length : number_at s (8 * i) 9 ≡ get_or s i 0 * 2 + get_or s (i + 1) 0 / 128
  path-length = number_in s (8 * i) 9 i 2 0 7 (omega arith) refl (omega arith) b ∙ omega (arith, b i, b (i + 1))

  driver-length : number_at s (8 * i + 15) 6 ≡ get_or s (i + 1) 0 % 2 * 32 + get_or s (i + 2) 0 / 8
  driver-length = number_in s (8 * i + 15) 6 i 3 15 3 refl refl (omega arith) b ∙ omega (arith, b i, b (i + 1), b (i + 2))

-- ---- heads of entries at byte i

module _ (s : List ℕ) (i : ℕ) (h : i + 2 ≤ length s) (b : Bytes s) where
  key_length : number_at s (8 * i) 7 ≡ get_or s i 0 / 2
  key_length = number_in s (8 * i) 7 i 1 0 1 (omega arith) refl (omega arith) b ∙ omega (arith, b i)

  value_length : number_at s (8 * i + 7) 9 ≡ get_or s i 0 % 2 * 256 + get_or s (i + 1) 0
  value_length = number_in s (8 * i + 7) 9 i 2 7 0 refl refl (omega arith) b ∙ omega (arith, b i, b (i + 1))

  run_length : number_at s (8 * i + 6) 9 ≡ get_or s i 0 % 4 * 128 + get_or s (i + 1) 0 / 2
  run_length = number_in s (8 * i + 6) 9 i 2 6 1 refl refl (omega arith) b ∙ omega (arith, b i, b (i + 1))

property_head : (k v : ℕ) → k < 128 → v < 512 → packed ((7, k) ∷ (9, v) ∷ []) ≡ (k * 2 + v / 256) ∷ v % 256 ∷ []
property_head k v h l =
    packed-digits ((7, k) ∷ (9, v) ∷ []) 2 refl
    ∙ (λ i. first i ∷ second i ∷ [])
  where
    first : (k % 2 ^ 7 * 2 ^ 9 + (v % 2 ^ 9 * 2 ^ 0 + 0)) / 2 ^ 8 % 256 ≡ k * 2 + v / 256
    first = omega arith

    second : (k % 2 ^ 7 * 2 ^ 9 + (v % 2 ^ 9 * 2 ^ 0 + 0)) / 2 ^ 0 % 256 ≡ v % 256
    second = omega arith
