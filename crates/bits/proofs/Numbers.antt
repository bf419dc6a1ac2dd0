-- Laws of a number that stands in some bits of bytes.
-- Assumes nothing.
use Prim.Native.Nat.{ℕ, zero, suc, ◌+◌, ◌*◌, ◌/◌, ◌%◌, ◌^◌, ◌≤◌, ◌<◌}
use mathlib.Core.Path.{◌≡◌, refl, sym, ap, ◌∙◌}
use mathlib.Core.List.{List, ◌++◌}
use native.Mathlib.Nat.{mod-eq_of_lt}
use native.Mathlib.Omega.{arith}
use lib.ListN.{length, get_or, take, drop, length-drop}
use lib.Pow.{high, low}
use lib.Seq.{take_at, drop_at, drop-cons, drop-drop, length-take-le, take-add, take-append-le, drop-append-le}
use Rattle.lists.specs.Bytes.{Bytes}
use Rattle.lists.proofs.Moves.{ap_at}
use Rattle.bits.specs.Bits.{to_bits, from_bits, bits_of, number_at}
use Rattle.bits.proofs.Bits.{length-to_bits, from-to, from-append, from_below, length_bits, bits_bits, bits_append, bits_drop, bits_part}

pub number_lt : (s : List ℕ) (at n : ℕ) → number_at s at n < 2 ^ n
unfolding number_at
number_lt s at n = from_below n (drop at (bits_of s)) (bits_part at (bits_of s) (bits_bits s)).1

-- ---- a number in two parts

pub number-add : (s : List ℕ) (at m n : ℕ) → at + m + n ≤ 8 * length s → number_at s at (m + n) ≡ number_at s at m * 2 ^ n + number_at s (at + m) n
unfolding number_at
number-add s at m n h =
    let b : List ℕ = bits_of s in
    let e : drop m (drop at b) ≡ drop (at + m) b = drop-drop m at b in
    let l : length (take n (drop (at + m) b)) ≡ n = length-take-le n (drop (at + m) b) (simp length-drop (omega (arith, length_bits s))) in
    ap from_bits (take-add m n (drop at b) ∙ ap (λ (x : List ℕ). take m (drop at b) ++ take n x) e)
    ∙ from-append (take m (drop at b)) (take n (drop (at + m) b))
    ∙ ap (λ (i : ℕ). from_bits (take m (drop at b)) * 2 ^ i + from_bits (take n (drop (at + m) b))) l

-- a number by one that it stands in: w bits from bit a on, b of them before it and c behind it
pub number_window : (s : List ℕ) (a w b n c : ℕ) → b + n + c ≡ w → a + w ≤ 8 * length s → number_at s (a + b) n ≡ number_at s a w / 2 ^ c % 2 ^ n
number_window s a w b n c e h =
    sym
    (ap (λ (x : ℕ). x % 2 ^ n)
    (ap (λ (x : ℕ). x / 2 ^ c) (ap (number_at s a) (sym e) ∙ number-add s a (b + n) c (omega arith))
    ∙ high (number_at s a (b + n)) c (number_lt s (a + (b + n)) c)
    ∙ number-add s a b n (omega arith))
    ∙ low (number_at s a b) n (number_lt s (a + b) n))

-- ---- in a list that has several parts

pub number-drop : (s : List ℕ) (i at n : ℕ) → number_at (drop i s) at n ≡ number_at s (8 * i + at) n
unfolding number_at
number-drop s i at n = ap (λ (x : List ℕ). from_bits (take n x)) (ap (drop at) (sym (bits_drop i s)) ∙ drop-drop at (8 * i) (bits_of s))

pub number_past : (p r : List ℕ) (at n : ℕ) → number_at (p ++ r) (8 * length p + at) n ≡ number_at r at n
number_past p r at n = sym (number-drop (p ++ r) (length p) at n) ∙ ap (λ (x : List ℕ). number_at x at n) (drop_at p r (length p) refl)

pub number-front : (p r : List ℕ) (at n : ℕ) → at + n ≤ 8 * length p → number_at (p ++ r) at n ≡ number_at p at n
unfolding number_at
number-front p r at n h =
    let l : at ≤ length (bits_of p) = omega (arith, length_bits p) in
    let m : n ≤ length (drop at (bits_of p)) = simp length-drop (omega (arith, length_bits p)) in
    ap (λ (x : List ℕ). from_bits (take n (drop at x))) (bits_append p r)
    ∙ ap (λ (x : List ℕ). from_bits (take n x)) (drop-append-le at (bits_of p) (bits_of r) l)
    ∙ ap from_bits (take-append-le n (drop at (bits_of p)) (bits_of r) m)

-- ---- by whole bytes

-- the number of k bytes from byte i on
abbrev pub bytes_number : List ℕ → ℕ → ℕ → ℕ
bytes_number s i zero = 0
bytes_number s i (suc zero) = get_or s i 0
bytes_number s i (suc (suc k)) = bytes_number s i (suc k) * 256 + get_or s (i + suc k) 0

pub number-byte : (s : List ℕ) (i : ℕ) → Bytes s → i < length s → number_at s (8 * i) 8 ≡ get_or s i 0
unfolding number_at bits_of
number-byte s i b h =
    let x : ℕ = get_or s i 0 in
    ap (λ (l : List ℕ). from_bits (take 8 l)) (bits_drop i s ∙ ap bits_of (drop-cons s i 0 h))
    ∙ ap from_bits (take_at (to_bits 8 x) (bits_of (drop (suc i) s)) 8 (length-to_bits 8 x))
    ∙ from-to 8 x
    ∙ mod-eq_of_lt (b i)

-- one byte more
pub number_step : (s : List ℕ) (i k : ℕ) → Bytes s → i + k < length s → number_at s (8 * i) (8 * (k + 1)) ≡ number_at s (8 * i) (8 * k) * 256 + get_or s (i + k) 0
number_step s i k b h =
    ap_at (number_at s (8 * i)) (8 * (k + 1)) (8 * k + 8) (omega arith)
    ∙ number-add s (8 * i) (8 * k) 8 (omega arith)
    ∙ ap (λ (x : ℕ). number_at s (8 * i) (8 * k) * 256 + x) (ap_at (λ a. number_at s a 8) (8 * i + 8 * k) (8 * (i + k)) (omega arith) ∙ number-byte s (i + k) b h)

pub number-bytes : (s : List ℕ) (i k : ℕ) → Bytes s → i + k ≤ length s → number_at s (8 * i) (8 * k) ≡ bytes_number s i k
unfolding number_at from_bits
number-bytes s i zero b h = refl
number-bytes s i (suc zero) b h = number-byte s i b (omega arith)
number-bytes s i (suc (suc k)) b h =
    ap_at (λ j. number_at s (8 * i) (8 * j)) (suc (suc k)) (suc k + 1) (omega arith)
    ∙ number_step s i (suc k) b (omega arith)
    ∙ ap (λ (x : ℕ). x * 256 + get_or s (i + suc k) 0) (number-bytes s i (suc k) b (omega arith))

-- a number by k bytes that it stands in, from byte i on: b of their bits before it and c behind it
pub number_in : (s : List ℕ) (at n i k b c : ℕ) → 8 * i + b ≡ at → b + n + c ≡ 8 * k → i + k ≤ length s → Bytes s
    → number_at s at n ≡ bytes_number s i k / 2 ^ c % 2 ^ n
number_in s at n i k b c e f h y =
    ap (λ (a : ℕ). number_at s a n) (sym e)
    ∙ number_window s (8 * i) (8 * k) b n c f (omega arith)
    ∙ ap (λ (x : ℕ). x / 2 ^ c % 2 ^ n) (number-bytes s i k y h)
