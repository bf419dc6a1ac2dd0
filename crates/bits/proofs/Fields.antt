-- Laws of packed fields: what is read from them, one of them put anew, and fields that were read packed again.
-- Assumes nothing.
use Prim.Native.Nat.{ℕ, zero, suc, ◌+◌, ◌*◌, ◌/◌, ◌%◌, ◌^◌, ◌≤◌, ◌<◌}
use mathlib.Core.Path.{◌≡◌, refl, sym, ap, ap₂, ◌∙◌}
use mathlib.Core.Bool.{Bool, true, false}
use mathlib.Core.List.{List, [], ◌∷◌, ◌++◌, map}
use native.Mathlib.Nat.{mod-eq_of_lt}
use native.Mathlib.Omega.{arith}
use lib.ListN.{length, take, drop, length-append, length-drop}
use lib.Dec.{eqb}
use lib.Seq.{take_all, take_at, drop_at, drop-drop, length-take-le, take-add, append_snoc}
use Rattle.lists.specs.Bytes.{Bytes}
use Rattle.lists.specs.Lists.{All}
use Rattle.lists.proofs.Lists.{All-append, cat-append}
use Rattle.lists.proofs.Moves.{ap_at, drop_past, bytes_take}
use Rattle.bits.specs.Bits.{to_bits, from_bits, bits_of, bytes_of, number_at, put_bits, put_at}
use Rattle.bits.specs.Fields.{Field, width, field_bits, packed, fields_at, bit, flag_at}
use Rattle.bits.proofs.Bits.{Bits, length-to_bits, bits_to_bits, to_bits-append, from-to, from-append, to-from_at, length_bits, bits_bits, bits_take, bits_part, length-bytes, bytes-bytes, bits_bytes, bytes_bits}
use Rattle.bits.proofs.Numbers.{number_lt, number-front}
use Rattle.bits.proofs.Puts.{put_front}

-- ---- the bits

pub length_fields : (fs : List Field) → length (field_bits fs) ≡ width fs
length_fields [] = refl
length_fields (f ∷ fs) = length-append (to_bits f.0 f.1) (field_bits fs) ∙ omega (arith, length-to_bits f.0 f.1, length_fields fs)

pub bits_fields : (fs : List Field) → Bits (field_bits fs)
bits_fields [] = tt
bits_fields (f ∷ fs) = All-append (λ b. b < 2) (to_bits f.0 f.1) (field_bits fs) (bits_to_bits f.0 f.1) (bits_fields fs)

pub bytes_packed : (fs : List Field) → Bytes (packed fs)
unfolding packed
bytes_packed fs = bytes-bytes (width fs / 8) (field_bits fs) (bits_fields fs)

module _ (fs : List Field) (k : ℕ) (w : width fs ≡ 8 * k) where
  pub packed_at : packed fs ≡ bytes_of k (field_bits fs)
  unfolding packed
  packed_at = ap_at (λ i. bytes_of i (field_bits fs)) (width fs / 8) k (omega arith)

  pub length-packed : length (packed fs) ≡ k
  length-packed = ap length packed_at ∙ length-bytes k (field_bits fs)

  pub bits_packed : bits_of (packed fs) ≡ field_bits fs
  bits_packed =
      ap bits_of packed_at
      ∙ bits_bytes k (field_bits fs) (bits_fields fs) (omega (arith, length_fields fs))
      ∙ take_all (8 * k) (field_bits fs) (omega (arith, length_fields fs))

-- ---- one of several fields

field_bits_lem : (p q : List Field) (n v : ℕ) → field_bits (p ++ ((n, v) ∷ q)) ≡ field_bits p ++ (to_bits n v ++ field_bits q)
field_bits_lem p q n v = cat-append (λ (f : Field). to_bits f.0 f.1) p ((n, v) ∷ q)

pub width-append : (p q : List Field) → width (p ++ q) ≡ width p + width q
width-append [] q = omega arith
width-append (f ∷ p) q = omega (arith, width-append p q)

module _ (p q : List Field) (n k : ℕ) where
  -- it reads as its number
  pub read_packed : (v : ℕ) (r : List ℕ) → width (p ++ ((n, v) ∷ q)) ≡ 8 * k → v < 2 ^ n → number_at (packed (p ++ ((n, v) ∷ q)) ++ r) (width p) n ≡ v
  unfolding number_at
  read_packed v r w h =
      let fs : List Field = p ++ ((n, v) ∷ q) in
      let l : width p + n ≤ 8 * length (packed fs) = omega (arith, length-packed fs k w, width-append p ((n, v) ∷ q)) in
      number-front (packed fs) r (width p) n l
      ∙ ap (λ (x : List ℕ). from_bits (take n (drop (width p) x))) (bits_packed fs k w ∙ field_bits_lem p q n v)
      ∙ ap (λ (x : List ℕ). from_bits (take n x)) (drop_at (field_bits p) (to_bits n v ++ field_bits q) (width p) (length_fields p))
      ∙ ap from_bits (take_at (to_bits n v) (field_bits q) n (length-to_bits n v))
      ∙ from-to n v
      ∙ mod-eq_of_lt h

  -- put anew, it is the one field that changes
  pub put-packed : (u v : ℕ) (r : List ℕ) → width (p ++ ((n, u) ∷ q)) ≡ 8 * k → Bytes r
      → put_at (packed (p ++ ((n, u) ∷ q)) ++ r) (width p) n v ≡ packed (p ++ ((n, v) ∷ q)) ++ r
  unfolding put_at put_bits
  put-packed u v r w b =
      let fs : List Field = p ++ ((n, u) ∷ q) in
      let gs : List Field = p ++ ((n, v) ∷ q) in
      let lf : length (packed fs) ≡ k = length-packed fs k w in
      let l : width p + n ≤ 8 * length (packed fs) = omega (arith, lf, width-append p ((n, u) ∷ q)) in
      let x : width gs ≡ 8 * k = width-append p ((n, v) ∷ q) ∙ omega (arith, width-append p ((n, u) ∷ q)) in
      let a : List ℕ = field_bits p in
      let la : length a ≡ width p = length_fields p in
      let e : put_bits (bits_of (packed fs)) (width p) n v ≡ field_bits gs =
      ap (λ (y : List ℕ). put_bits y (width p) n v) (bits_packed fs k w ∙ field_bits_lem p q n u)
      ∙ ap₂ (λ (y z : List ℕ). y ++ (to_bits n v ++ z)) (take_at a (to_bits n u ++ field_bits q) (width p) la)
      (drop_past a (to_bits n u) (field_bits q) (width p) (width p + n) la (ap (λ (i : ℕ). width p + i) (length-to_bits n u)))
      ∙ sym (field_bits_lem p q n v)
      in
      put_front (packed fs) r (width p) n v l b
      ∙ ap (λ (y : List ℕ). y ++ r) (ap₂ (λ (i : ℕ) (y : List ℕ). bytes_of i y) lf e ∙ sym (packed_at gs k x))

-- ---- fields that were read

-- each number fits its width
abbrev pub Fit : List Field → Type 0
Fit fs = All (λ f. f.1 < 2 ^ f.0) fs

-- from some of the fields on, those behind them
fields-from : (s r : List ℕ) (k : ℕ) (p q : List Field) → s ≡ packed (p ++ q) ++ r → width (p ++ q) ≡ 8 * k → Fit q
    → fields_at s (width p) (map (λ f. f.0) q) ≡ q
fields-from s r k p [] e w h = refl
fields-from s r k p (f ∷ q) e w (h, hs) =
    let n : ℕ = f.0 in
    let a : p ++ (f ∷ []) ++ q ≡ p ++ (f ∷ q) = append_snoc p f q in
    let b : width (p ++ (f ∷ [])) ≡ width p + n = width-append p (f ∷ []) ∙ omega arith in
    ap₂ (λ (v : ℕ) (l : List Field). (n, v) ∷ l)
    (ap (λ (x : List ℕ). number_at x (width p) n) e ∙ read_packed p q n k f.1 r w h)
    (ap (λ (i : ℕ). fields_at s i (map (λ (g : Field). g.0) q)) (sym b)
    ∙ fields-from s r k (p ++ (f ∷ [])) q (e ∙ ap (λ (l : List Field). packed l ++ r) (sym a)) (ap width a ∙ w) hs)

-- packed fields read as they were
pub fields_read : (fs : List Field) (k : ℕ) (r : List ℕ) → width fs ≡ 8 * k → Fit fs → fields_at (packed fs ++ r) 0 (map (λ f. f.0) fs) ≡ fs
fields_read fs k r w h = fields-from (packed fs ++ r) r k [] fs refl w h

pub fields_bits : (s : List ℕ) (at : ℕ) (ns : List ℕ) → at + width (fields_at s at ns) ≤ 8 * length s → field_bits (fields_at s at ns) ≡ take (width (fields_at s at ns)) (drop at (bits_of s))
unfolding number_at
fields_bits s at [] h = refl
fields_bits s at (n ∷ ns) h =
    let b : List ℕ = drop at (bits_of s) in
    let m : ℕ = width (fields_at s (at + n) ns) in
    let l : length (take n b) ≡ n = length-take-le n b (simp length-drop (omega (arith, length_bits s))) in
    ap₂ (λ (x y : List ℕ). x ++ y)
    (to-from_at n (take n b) l (bits_part n b (bits_part at (bits_of s) (bits_bits s)).1).0)
    (fields_bits s (at + n) ns (omega arith) ∙ ap (take m) (sym (drop-drop n at (bits_of s))))
    ∙ sym (take-add n m b)

-- packed again, fields are the bytes that they were read from
pub packed_read : (s ns : List ℕ) (k : ℕ) → width (fields_at s 0 ns) ≡ 8 * k → k ≤ length s → Bytes s → packed (fields_at s 0 ns) ≡ take k s
packed_read s ns k w h b =
    let fs : List Field = fields_at s 0 ns in
    let l : length (take k s) ≡ k = length-take-le k s h in
    packed_at fs k w
    ∙ ap (bytes_of k) (fields_bits s 0 ns (omega arith) ∙ ap (λ (i : ℕ). take i (bits_of s)) w ∙ bits_take k s h)
    ∙ ap (λ (i : ℕ). bytes_of i (bits_of (take k s))) (sym l)
    ∙ bytes_bits (take k s) (bytes_take k s b)

-- ---- packed fields by arithmetic

-- the last k bytes of a number
abbrev pub digits : ℕ → ℕ → List ℕ
digits zero x = []
digits (suc k) x = x / 2 ^ (8 * k) % 256 ∷ digits k x

pub bytes-digits : (k x : ℕ) → bytes_of k (to_bits (8 * k) x) ≡ digits k x
unfolding bytes_of
bytes-digits zero x = refl
bytes-digits (suc k) x =
    let e : to_bits (8 * suc k) x ≡ to_bits 8 (x / 2 ^ (8 * k)) ++ to_bits (8 * k) x =
    ap_at (λ i. to_bits i x) (8 * suc k) (8 + 8 * k) (omega arith) ∙ to_bits-append 8 (8 * k) x
    in
    let l : length (to_bits 8 (x / 2 ^ (8 * k))) ≡ 8 = length-to_bits 8 (x / 2 ^ (8 * k)) in
    ap₂ (λ (b : ℕ) (bs : List ℕ). b ∷ bs)
    (ap (λ (y : List ℕ). from_bits (take 8 y)) e ∙ ap from_bits (take_at (to_bits 8 (x / 2 ^ (8 * k))) (to_bits (8 * k) x) 8 l) ∙ from-to 8 (x / 2 ^ (8 * k)))
    (ap (λ (y : List ℕ). bytes_of k (drop 8 y)) e ∙ ap (bytes_of k) (drop_at (to_bits 8 (x / 2 ^ (8 * k))) (to_bits (8 * k) x) 8 l) ∙ bytes-digits k x)

-- the number that fields make, each within its width
abbrev pub fields_number : List Field → ℕ
fields_number [] = 0
fields_number (f ∷ fs) = f.1 % 2 ^ f.0 * 2 ^ width fs + fields_number fs

fields-number : (fs : List Field) → from_bits (field_bits fs) ≡ fields_number fs
unfolding from_bits
fields-number [] = refl
fields-number (f ∷ fs) =
    from-append (to_bits f.0 f.1) (field_bits fs)
    ∙ ap₂ (λ (x y : ℕ). x + y) (ap₂ (λ (x i : ℕ). x * 2 ^ i) (from-to f.0 f.1) (length_fields fs)) (fields-number fs)

pub packed-digits : (fs : List Field) (k : ℕ) → width fs ≡ 8 * k → packed fs ≡ digits k (fields_number fs)
packed-digits fs k w =
    packed_at fs k w
    ∙ ap (bytes_of k) (sym (to-from_at (8 * k) (field_bits fs) (length_fields fs ∙ w) (bits_fields fs)))
    ∙ bytes-digits k (from_bits (field_bits fs))
    ∙ ap (digits k) (fields-number fs)

-- ---- flags

pub bit_small : (b : Bool) → bit b < 2
bit_small true = omega arith
bit_small false = omega arith

pub eqb-bit : (b : Bool) → eqb (bit b) 1 ≡ b
eqb-bit true = refl
eqb-bit false = refl

pub bit-eqb : (n : ℕ) → n < 2 → bit (eqb n 1) ≡ n
bit-eqb zero h = refl
bit-eqb (suc zero) h = refl
bit-eqb (suc (suc n)) h = absurd (omega arith)

pub bit-flag : (bs : List ℕ) (at : ℕ) → bit (flag_at bs at) ≡ number_at bs at 1
bit-flag bs at = bit-eqb (number_at bs at 1) (number_lt bs at 1)
