-- Heads of packed fields: read back whole, written again from what was read, read in place, and by arithmetic on their bytes.
-- Assumes nothing.
use Prim.Native.Nat.{ℕ, zero, suc, ◌+◌, ◌*◌, ◌/◌, ◌%◌, ◌^◌, ◌≤◌, ◌<◌}
use mathlib.Core.Path.{◌≡◌, refl, sym, ap, ◌∙◌}
use mathlib.Core.List.{List, [], ◌∷◌, ◌++◌, map, append-nil}
use native.Mathlib.Nat.{not-suc-le-zero, le_of_suc-le-suc}
use native.Mathlib.Omega.{arith}
use lib.ListN.{length, get_or, take, drop, length-drop, take-append-drop}
use lib.Seq.{take_all, length-take-le}
use Rattle.lists.specs.Bytes.{Bytes}
use Rattle.bits.specs.Bits.{number_at, put_at}
use Rattle.bits.specs.Fields.{Field, width, packed, fields_at}
use Rattle.bits.proofs.Numbers.{number-drop, number-front, number_in}
use Rattle.bits.proofs.Fields.{Fit, fields_read, packed_read, packed-digits, put-packed}
use Rattle.entries.specs.Entry.{prop_fields}

-- the number of one of several fields
abbrev pub number_of : ℕ → List Field → ℕ
number_of i fs = get_or (map (λ (f : Field). f.1) fs) i 0

abbrev pub widths : List Field → List ℕ
widths fs = map (λ (f : Field). f.0) fs

-- ---- a head as a whole

-- its fields are read back
pub head_read : (fs : List Field) (k : ℕ) → width fs ≡ 8 * k → Fit fs → fields_at (packed fs) 0 (widths fs) ≡ fs
head_read fs k w h = ap (λ (x : List ℕ). fields_at x 0 (widths fs)) (sym (append-nil (packed fs))) ∙ fields_read fs k [] w h

-- fields that were read from all bytes of a head make that head
pub head_back : (s ns : List ℕ) (k : ℕ) → width (fields_at s 0 ns) ≡ 8 * k → length s ≡ k → Bytes s → packed (fields_at s 0 ns) ≡ s
head_back s ns k w l b = packed_read s ns k w (omega arith) b ∙ take_all k s (omega arith)

-- ---- in place

-- a field of the k bytes from byte i on
pub number-part : (s : List ℕ) (i k at n : ℕ) → i + k ≤ length s → at + n ≤ 8 * k → number_at (take k (drop i s)) at n ≡ number_at s (8 * i + at) n
number-part s i k at n h l =
    let t : List ℕ = drop i s in
    let m : length (take k t) ≡ k = length-take-le k t (simp length-drop (omega arith)) in
    sym (number-front (take k t) (drop k t) at n (omega arith))
    ∙ ap (λ (x : List ℕ). number_at x at n) (take-append-drop k t)
    ∙ number-drop s i at n

-- a field of the first k bytes
pub number-first : (s : List ℕ) (k at n : ℕ) → k ≤ length s → at + n ≤ 8 * k → number_at (take k s) at n ≡ number_at s at n
number-first s k at n h l = number-part s 0 k at n (omega arith) l ∙ ap (λ (i : ℕ). number_at s i n) (omega arith)

-- ---- by arithmetic: the head of a property that begins at byte i

module _ (s : List ℕ) (i : ℕ) (h : i + 2 ≤ length s) (b : Bytes s) where
  pub key_length : number_at s (8 * i) 7 ≡ get_or s i 0 / 2
  key_length = number_in s (8 * i) 7 i 1 0 1 (omega arith) refl (omega arith) b ∙ omega (arith, b i)

  pub value_length : number_at s (8 * i + 7) 9 ≡ get_or s i 0 % 2 * 256 + get_or s (i + 1) 0
  value_length = number_in s (8 * i + 7) 9 i 2 7 0 refl refl (omega arith) b ∙ omega (arith, b i, b (i + 1))

pub prop_head : (k v : ℕ) → k < 128 → v < 512 → packed (prop_fields k v) ≡ (k * 2 + v / 256) ∷ v % 256 ∷ []
prop_head k v h l = packed-digits (prop_fields k v) 2 refl ∙ (λ i. first i ∷ second i ∷ [])
  where
    first : (k % 2 ^ 7 * 2 ^ 9 + (v % 2 ^ 9 * 2 ^ 0 + 0)) / 2 ^ 8 % 256 ≡ k * 2 + v / 256
    first = omega arith

    second : (k % 2 ^ 7 * 2 ^ 9 + (v % 2 ^ 9 * 2 ^ 0 + 0)) / 2 ^ 0 % 256 ≡ v % 256
    second = omega arith

-- ---- one field put anew

-- the fields with another number for the i-th
abbrev pub with_number : ℕ → ℕ → List Field → List Field
with_number i v [] = []
with_number zero v (f ∷ fs) = (f.0, v) ∷ fs
with_number (suc i) v (f ∷ fs) = f ∷ with_number i v fs

-- where the i-th begins, and how many bits it has
abbrev pub place_of : ℕ → List Field → ℕ
place_of i fs = width (take i fs)

abbrev pub width_of : ℕ → List Field → ℕ
width_of i fs = get_or (widths fs) i 0

by_field : (fs : List Field) (i : ℕ) → i < length fs → fs ≡ take i fs ++ ((width_of i fs, number_of i fs) ∷ drop (suc i) fs)
by_field [] i h = absurd (not-suc-le-zero h)
by_field (f ∷ fs) zero h = refl
by_field (f ∷ fs) (suc i) h = ap (λ (l : List Field). f ∷ l) (by_field fs i (le_of_suc-le-suc h))

by_other : (fs : List Field) (i v : ℕ) → i < length fs → with_number i v fs ≡ take i fs ++ ((width_of i fs, v) ∷ drop (suc i) fs)
by_other [] i v h = absurd (not-suc-le-zero h)
by_other (f ∷ fs) zero v h = refl
by_other (f ∷ fs) (suc i) v h = ap (λ (l : List Field). f ∷ l) (by_other fs i v (le_of_suc-le-suc h))

-- writing it in place gives the head of the fields with that number
pub head_put : (fs : List Field) (i v k : ℕ) (r : List ℕ) → i < length fs → width fs ≡ 8 * k → Bytes r
    → put_at (packed fs ++ r) (place_of i fs) (width_of i fs) v ≡ packed (with_number i v fs) ++ r
head_put fs i v k r h w b =
    let p : List Field = take i fs in
    let q : List Field = drop (suc i) fs in
    let e = by_field fs i h in
    ap (λ (l : List Field). put_at (packed l ++ r) (place_of i fs) (width_of i fs) v) e
    ∙ put-packed p q (width_of i fs) k (number_of i fs) v r (sym (ap width e) ∙ w) b
    ∙ ap (λ (l : List Field). packed l ++ r) (sym (by_other fs i v h))
