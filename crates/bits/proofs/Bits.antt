-- Laws of bits: of a number, of bytes, and back.
-- Assumes nothing.
use Prim.Native.Nat.{ℕ, zero, suc, ◌+◌, ◌*◌, ◌/◌, ◌%◌, ◌^◌, ◌≤◌, ◌<◌}
use mathlib.Core.Path.{◌≡◌, refl, sym, ap, ap₂, ◌∙◌}
use mathlib.Core.List.{List, [], ◌∷◌, ◌++◌}
use native.Mathlib.Nat.{mod-one, mod-eq_of_lt, pow-suc, add-mul, mul_assoc, add_assoc}
use native.Mathlib.Numerals.{one-add}
use native.Mathlib.Omega.{arith}
use lib.ListN.{length, take, drop, length-append, length-take, length-drop, take-append-drop}
use lib.Pow.{pow-add, pow_mono, shr-shr, high, low, mod-pow-add, mod-mod-pow, field}
use lib.Seq.{take_at, drop_at, drop-drop, length-take-le, drop-append-add, drop-nil, take-add, take-append-le, drop-append-le}
use Rattle.lists.specs.Lists.{All}
use Rattle.lists.specs.Bytes.{Bytes}
use Rattle.lists.proofs.Lists.{cat-append, All-append, All-split}
use Rattle.lists.proofs.Moves.{ap_at}
use Rattle.bits.specs.Bits.{to_bits, from_bits, bits_of, bytes_of}

-- each element is a bit
abbrev pub Bits : List ℕ → Type 0
Bits bs = All (λ b. b < 2) bs

-- ---- the bits of a number

pub length-to_bits : (n v : ℕ) → length (to_bits n v) ≡ n
unfolding to_bits
length-to_bits zero v = refl
length-to_bits (suc n) v = ap suc (length-to_bits n v)

pub bits_to_bits : (n v : ℕ) → Bits (to_bits n v)
unfolding to_bits
bits_to_bits zero v = tt
bits_to_bits (suc n) v = (omega arith, bits_to_bits n v)

-- the high bits and the low ones
pub to_bits-append : (m n v : ℕ) → to_bits (m + n) v ≡ to_bits m (v / 2 ^ n) ++ to_bits n v
unfolding to_bits
to_bits-append zero n v = ap_at (λ i. to_bits i v) (0 + n) n (omega arith)
to_bits-append (suc m) n v =
    ap_at (λ i. to_bits i v) (suc m + n) (suc (m + n)) (omega arith)
    ∙ ap₂ (λ (b : ℕ) (bs : List ℕ). b ∷ bs)
    (ap (λ (x : ℕ). x % 2) (ap_at (λ i. v / 2 ^ i) (m + n) (n + m) (omega arith) ∙ sym (shr-shr v n m)))
    (to_bits-append m n v)

-- the bits above do not matter
pub to_bits-low : (n m v : ℕ) → to_bits n (v % 2 ^ (m + n)) ≡ to_bits n v
unfolding to_bits
to_bits-low zero m v = refl
to_bits-low (suc n) m v =
    let e : v % 2 ^ (m + suc n) ≡ v % 2 ^ (m + 1 + n) = ap_at (λ i. v % 2 ^ i) (m + suc n) (m + 1 + n) (omega arith) in
    ap (to_bits (suc n)) e
    ∙ ap₂ (λ (b : ℕ) (bs : List ℕ). b ∷ bs)
    (ap (λ (x : ℕ). x % 2) (field v (m + 1) n) ∙ mod-mod-pow (v / 2 ^ n) m 1)
    (to_bits-low n (m + 1) v)

pub to_bits-mod : (n v : ℕ) → to_bits n (v % 2 ^ n) ≡ to_bits n v
to_bits-mod n v = ap_at (λ i. to_bits n (v % 2 ^ i)) n (0 + n) (omega arith) ∙ to_bits-low n 0 v

-- a number in two parts
pub to_bits-join : (m n a b : ℕ) → b < 2 ^ n → to_bits (m + n) (a * 2 ^ n + b) ≡ to_bits m a ++ to_bits n b
to_bits-join m n a b h =
    to_bits-append m n (a * 2 ^ n + b)
    ∙ ap₂ (λ (x y : List ℕ). x ++ y) (ap (to_bits m) (high a n h))
    (sym (to_bits-mod n (a * 2 ^ n + b)) ∙ ap (to_bits n) (low a n h))

-- ---- the number of bits

pub from-to : (n v : ℕ) → from_bits (to_bits n v) ≡ v % 2 ^ n
unfolding to_bits from_bits
from-to zero v = sym (mod-one v)
from-to (suc n) v =
    ap₂ (λ (k m : ℕ). v / 2 ^ n % 2 * 2 ^ k + m) (length-to_bits n v) (from-to n v)
    ∙ sym (mod-pow-add v 1 n)
    ∙ ap (λ (i : ℕ). v % 2 ^ i) (one-add n)

pub from-append : (xs ys : List ℕ) → from_bits (xs ++ ys) ≡ from_bits xs * 2 ^ length ys + from_bits ys
unfolding from_bits
from-append [] ys = omega arith
from-append (x ∷ xs) ys =
    ap₂ (λ (p m : ℕ). x * p + m) (ap (λ (i : ℕ). 2 ^ i) (length-append xs ys) ∙ pow-add 2 (length xs) (length ys)) (from-append xs ys)
    ∙ joined x (2 ^ length xs) (2 ^ length ys) (from_bits xs) (from_bits ys)
  where
    joined : (x p q a b : ℕ) → x * (p * q) + (a * q + b) ≡ (x * p + a) * q + b
    joined x p q a b = rw (add-mul (x * p) a q, mul_assoc x p q) (sym (add_assoc (x * (p * q)) (a * q) b))

pub from-lt : (bs : List ℕ) → Bits bs → from_bits bs < 2 ^ length bs
unfolding from_bits
from-lt [] h = omega arith
from-lt (b ∷ bs) (h, hs) = below b (from_bits bs) (2 ^ length bs) (2 ^ suc (length bs)) h (from-lt bs hs) (pow-suc 2 (length bs))
  where
    below : (b f p q : ℕ) → b < 2 → f < p → q ≡ p * 2 → b * p + f < q
    below zero f p q h k e = omega arith
    below (suc zero) f p q h k e = omega arith
    below (suc (suc b)) f p q h k e = absurd (omega arith)

pub to-from : (bs : List ℕ) → Bits bs → to_bits (length bs) (from_bits bs) ≡ bs
unfolding to_bits from_bits
to-from [] h = refl
to-from (b ∷ bs) (h, hs) =
    ap₂ (λ (x : ℕ) (l : List ℕ). x ∷ l)
    (ap (λ (x : ℕ). x % 2) (high b (length bs) (from-lt bs hs)) ∙ mod-eq_of_lt h)
    (sym (to_bits-mod (length bs) (b * 2 ^ length bs + from_bits bs)) ∙ ap (to_bits (length bs)) (low b (length bs) (from-lt bs hs)) ∙ to-from bs hs)

-- the same for a length that is written otherwise
pub to-from_at : (n : ℕ) (bs : List ℕ) → length bs ≡ n → Bits bs → to_bits n (from_bits bs) ≡ bs
to-from_at n bs e h = ap (λ (i : ℕ). to_bits i (from_bits bs)) (sym e) ∙ to-from bs h

-- ---- the bits of bytes

pub length_bits : (s : List ℕ) → length (bits_of s) ≡ 8 * length s
unfolding bits_of
length_bits [] = refl
length_bits (x ∷ s) = omega (arith, length-append (to_bits 8 x) (bits_of s), length-to_bits 8 x, length_bits s)

pub bits_bits : (s : List ℕ) → Bits (bits_of s)
unfolding bits_of
bits_bits [] = tt
bits_bits (x ∷ s) = All-append (λ b. b < 2) (to_bits 8 x) (bits_of s) (bits_to_bits 8 x) (bits_bits s)

pub bits_append : (p r : List ℕ) → bits_of (p ++ r) ≡ bits_of p ++ bits_of r
unfolding bits_of
bits_append p r = cat-append (to_bits 8) p r

pub bits_drop : (k : ℕ) (s : List ℕ) → drop (8 * k) (bits_of s) ≡ bits_of (drop k s)
unfolding bits_of
bits_drop zero s = refl
bits_drop (suc k) [] = drop-nil (8 * suc k)
bits_drop (suc k) (x ∷ s) =
    let e : 8 * suc k ≡ length (to_bits 8 x) + 8 * k = omega (arith, length-to_bits 8 x) in
    rw e (drop-append-add (to_bits 8 x) (bits_of s) (8 * k) ∙ bits_drop k s)

pub bits_take : (k : ℕ) (s : List ℕ) → k ≤ length s → take (8 * k) (bits_of s) ≡ bits_of (take k s)
bits_take k s h =
    let l : length (bits_of (take k s)) ≡ 8 * k = length_bits (take k s) ∙ ap (λ (i : ℕ). 8 * i) (length-take-le k s h) in
    ap (λ (l : List ℕ). take (8 * k) (bits_of l)) (sym (take-append-drop k s))
    ∙ ap (take (8 * k)) (bits_append (take k s) (drop k s))
    ∙ take_at (bits_of (take k s)) (bits_of (drop k s)) (8 * k) l

-- ---- the bytes of bits

pub bits_part : (n : ℕ) (bs : List ℕ) → Bits bs → Bits (take n bs) × Bits (drop n bs)
bits_part n bs h = All-split (λ b. b < 2) (take n bs) (drop n bs) (rw (take-append-drop n bs) h)

pub length-bytes : (k : ℕ) (bs : List ℕ) → length (bytes_of k bs) ≡ k
unfolding bytes_of
length-bytes zero bs = refl
length-bytes (suc k) bs = ap suc (length-bytes k (drop 8 bs))

-- at most n bits make less than 2 ^ n
pub from_below : (n : ℕ) (bs : List ℕ) → Bits bs → from_bits (take n bs) < 2 ^ n
from_below n bs h =
    let l : length (take n bs) ≤ n = simp length-take (omega arith) in
    let p : 2 ^ length (take n bs) ≤ 2 ^ n = pow_mono l in
    let f = from-lt (take n bs) (bits_part n bs h).0 in
    omega arith

pub bytes-bytes : (k : ℕ) (bs : List ℕ) → Bits bs → Bytes (bytes_of k bs)
unfolding bytes_of
bytes-bytes zero bs h i = omega arith
bytes-bytes (suc k) bs h zero = from_below 8 bs h
bytes-bytes (suc k) bs h (suc i) = bytes-bytes k (drop 8 bs) (bits_part 8 bs h).1 i

pub bits_bytes : (k : ℕ) (bs : List ℕ) → Bits bs → 8 * k ≤ length bs → bits_of (bytes_of k bs) ≡ take (8 * k) bs
unfolding bits_of bytes_of
bits_bytes zero bs h l = refl
bits_bytes (suc k) bs h l =
    let e : length (take 8 bs) ≡ 8 = length-take-le 8 bs (omega arith) in
    let d : 8 * k ≤ length (drop 8 bs) = simp length-drop (omega arith) in
    ap₂ (λ (x y : List ℕ). x ++ y) (to-from_at 8 (take 8 bs) e (bits_part 8 bs h).0) (bits_bytes k (drop 8 bs) (bits_part 8 bs h).1 d)
    ∙ sym (take-add 8 (8 * k) bs)
    ∙ ap_at (λ i. take i bs) (8 + 8 * k) (8 * suc k) (omega arith)

-- bytes from their bits
pub bytes_bits : (s : List ℕ) → Bytes s → bytes_of (length s) (bits_of s) ≡ s
unfolding bits_of bytes_of
bytes_bits [] h = refl
bytes_bits (x ∷ s) h =
    let e : length (to_bits 8 x) ≡ 8 = length-to_bits 8 x in
    ap₂ (λ (b : ℕ) (l : List ℕ). b ∷ l)
    (ap from_bits (take_at (to_bits 8 x) (bits_of s) 8 e) ∙ from-to 8 x ∙ mod-eq_of_lt (h 0))
    (ap (bytes_of (length s)) (drop_at (to_bits 8 x) (bits_of s) 8 e) ∙ bytes_bits s (λ i. h (suc i)))

-- the bits behind do not matter
pub bytes-front : (k : ℕ) (xs ys : List ℕ) → 8 * k ≤ length xs → bytes_of k (xs ++ ys) ≡ bytes_of k xs
unfolding bytes_of
bytes-front zero xs ys h = refl
bytes-front (suc k) xs ys h =
    let a : 8 ≤ length xs = omega arith in
    let d : 8 * k ≤ length (drop 8 xs) = simp length-drop (omega arith) in
    ap₂ (λ (b : ℕ) (l : List ℕ). b ∷ l)
    (ap from_bits (take-append-le 8 xs ys a))
    (ap (bytes_of k) (drop-append-le 8 xs ys a) ∙ bytes-front k (drop 8 xs) ys d)

pub bytes-append : (j k : ℕ) (bs : List ℕ) → bytes_of (j + k) bs ≡ bytes_of j bs ++ bytes_of k (drop (8 * j) bs)
unfolding bytes_of
bytes-append zero k bs = ap_at (λ i. bytes_of i bs) (0 + k) k (omega arith)
bytes-append (suc j) k bs =
    ap_at (λ i. bytes_of i bs) (suc j + k) (suc (j + k)) (omega arith)
    ∙ ap (λ (l : List ℕ). from_bits (take 8 bs) ∷ l)
    (bytes-append j k (drop 8 bs)
    ∙ ap (λ (l : List ℕ). bytes_of j (drop 8 bs) ++ bytes_of k l) (drop-drop (8 * j) 8 bs ∙ ap_at (λ i. drop i bs) (8 + 8 * j) (8 * suc j) (omega arith)))

-- bytes whose bits are the same are the same
pub same_bits : (s t : List ℕ) → Bytes s → Bytes t → bits_of s ≡ bits_of t → s ≡ t
same_bits s t hs ht e =
    let l : length s ≡ length t = omega (arith, length_bits s, length_bits t, ap length e) in
    sym (bytes_bits s hs) ∙ ap₂ (λ (n : ℕ) (l : List ℕ). bytes_of n l) l e ∙ bytes_bits t ht
