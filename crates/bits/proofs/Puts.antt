-- Laws of bytes into which a number was put.
-- Assumes nothing.
use Prim.Native.Nat.{ℕ, ◌+◌, ◌-◌, ◌*◌, ◌%◌, ◌^◌, ◌≤◌, ◌<◌}
use mathlib.Core.Path.{◌≡◌, sym, ap, ap₂, ◌∙◌}
use mathlib.Core.List.{List, ◌++◌, append_assoc}
use native.Mathlib.Omega.{arith}
use lib.ListN.{length, take, drop, length-append, length-take, length-drop, take-append-drop}
use lib.Seq.{take_all, take_at, drop_at, drop-drop, length-take-le, take-append-le, drop-append-le, take-append-add, drop-append-add}
use Rattle.lists.specs.Bytes.{Bytes}
use Rattle.lists.proofs.Lists.{All-append}
use Rattle.lists.proofs.Moves.{drop_past, part-front}
use Rattle.bits.specs.Bits.{to_bits, from_bits, bits_of, bytes_of, number_at, put_bits, put_at}
use Rattle.bits.proofs.Bits.{
  Bits,
  length-to_bits,
  bits_to_bits,
  from-to,
  length_bits,
  bits_bits,
  bits_append,
  bits_part,
  length-bytes,
  bytes-bytes,
  bits_bytes,
  bytes_bits,
  bytes-front,
  bytes-append,
}

-- ---- the bits

module _ (bs : List ℕ) (at n v : ℕ) where
  pub bits_put_bits : Bits bs → Bits (put_bits bs at n v)
  unfolding put_bits
  bits_put_bits h =
      All-append (λ b. b < 2) (take at bs) (to_bits n v ++ drop (at + n) bs) (bits_part at bs h).0
      (All-append (λ b. b < 2) (to_bits n v) (drop (at + n) bs) (bits_to_bits n v) (bits_part (at + n) bs h).1)

  pub length-put_bits : at + n ≤ length bs → length (put_bits bs at n v) ≡ length bs
  unfolding put_bits
  length-put_bits h = simp (length-append, length-take, length-drop, length-to_bits) (omega arith)

module _ (s : List ℕ) (at n v : ℕ) where
  pub length-put : length (put_at s at n v) ≡ length s
  unfolding put_at
  length-put = length-bytes (length s) (put_bits (bits_of s) at n v)

  pub bytes-put : Bytes (put_at s at n v)
  unfolding put_at
  bytes-put = bytes-bytes (length s) (put_bits (bits_of s) at n v) (bits_put_bits (bits_of s) at n v (bits_bits s))

  pub bits_put : at + n ≤ 8 * length s → bits_of (put_at s at n v) ≡ put_bits (bits_of s) at n v
  unfolding put_at
  bits_put h =
      let b : List ℕ = put_bits (bits_of s) at n v in
      let l : length b ≡ 8 * length s = length-put_bits (bits_of s) at n v (omega (arith, length_bits s)) ∙ length_bits s in
      bits_bytes (length s) b (bits_put_bits (bits_of s) at n v (bits_bits s)) (omega arith) ∙ take_all (8 * length s) b (omega arith)

-- ---- what is read afterwards

module _ (s : List ℕ) (at n v : ℕ) (h : at + n ≤ 8 * length s) where
  front : length (take at (bits_of s)) ≡ at
  front = length-take-le at (bits_of s) (omega (arith, length_bits s))

  -- the number that was put
  pub read_put : number_at (put_at s at n v) at n ≡ v % 2 ^ n
  unfolding number_at put_bits
  read_put =
      let b : List ℕ = bits_of s in
      ap (λ (x : List ℕ). from_bits (take n (drop at x))) (bits_put s at n v h)
      ∙ ap (λ (x : List ℕ). from_bits (take n x)) (drop_at (take at b) (to_bits n v ++ drop (at + n) b) at front)
      ∙ ap from_bits (take_at (to_bits n v) (drop (at + n) b) n (length-to_bits n v))
      ∙ from-to n v

  -- any that ends before it
  pub read_before : (b m : ℕ) → b + m ≤ at → number_at (put_at s at n v) b m ≡ number_at s b m
  unfolding number_at put_bits
  read_before b m k =
      let x : List ℕ = bits_of s in
      let l : b + m ≤ length (take at x) = omega (arith, front) in
      ap (λ (y : List ℕ). from_bits (take m (drop b y))) (bits_put s at n v h)
      ∙ ap from_bits (part-front (take at x) (to_bits n v ++ drop (at + n) x) b m l)
      ∙ ap from_bits (sym (part-front (take at x) (drop at x) b m l))
      ∙ ap (λ (y : List ℕ). from_bits (take m (drop b y))) (take-append-drop at x)

  -- any that starts behind it
  pub read_behind : (b m : ℕ) → at + n ≤ b → number_at (put_at s at n v) b m ≡ number_at s b m
  unfolding number_at put_bits
  read_behind b m k =
      let x : List ℕ = bits_of s in
      let e : at + n + (b - (at + n)) ≡ b = omega arith in
      let d : drop b (take at x ++ (to_bits n v ++ drop (at + n) x)) ≡ drop b x =
      ap (λ (i : ℕ). drop i (take at x ++ (to_bits n v ++ drop (at + n) x))) (sym e)
      ∙ sym (drop-drop (b - (at + n)) (at + n) (take at x ++ (to_bits n v ++ drop (at + n) x)))
      ∙ ap (drop (b - (at + n))) (drop_past (take at x) (to_bits n v) (drop (at + n) x) at (at + n) front (ap (λ (i : ℕ). at + i) (length-to_bits n v)))
      ∙ drop-drop (b - (at + n)) (at + n) x
      ∙ ap (λ (i : ℕ). drop i x) e
      in
      ap (λ (y : List ℕ). from_bits (take m (drop b y))) (bits_put s at n v h)
      ∙ ap (λ (y : List ℕ). from_bits (take m y)) d

-- ---- in a list that has several parts

-- bits, and then the bits of bytes
pub bytes-join : (j : ℕ) (x r : List ℕ) → length x ≡ 8 * j → Bytes r → bytes_of (j + length r) (x ++ bits_of r) ≡ bytes_of j x ++ r
bytes-join j x r l h =
    bytes-append j (length r) (x ++ bits_of r)
    ∙ ap₂ (λ (u v : List ℕ). u ++ v) (bytes-front j x (bits_of r) (omega arith))
    (ap (bytes_of (length r)) (drop_at x (bits_of r) (8 * j) l) ∙ bytes_bits r h)

pub put_front : (p r : List ℕ) (at n v : ℕ) → at + n ≤ 8 * length p → Bytes r → put_at (p ++ r) at n v ≡ put_at p at n v ++ r
unfolding put_at put_bits
put_front p r at n v h b =
    let x : List ℕ = bits_of p in
    let l : at + n ≤ length x = omega (arith, length_bits p) in
    let e : put_bits (bits_of (p ++ r)) at n v ≡ put_bits x at n v ++ bits_of r =
    ap (λ (y : List ℕ). put_bits y at n v) (bits_append p r)
    ∙ ap₂ (λ (y z : List ℕ). y ++ (to_bits n v ++ z)) (take-append-le at x (bits_of r) (omega arith)) (drop-append-le (at + n) x (bits_of r) l)
    ∙ regroup (take at x) (to_bits n v) (drop (at + n) x) (bits_of r)
    in
    ap₂ (λ (k : ℕ) (y : List ℕ). bytes_of k y) (length-append p r) e
    ∙ bytes-join (length p) (put_bits x at n v) r (length-put_bits x at n v l ∙ length_bits p) b
  where
    regroup : (a b c d : List ℕ) → a ++ (b ++ (c ++ d)) ≡ (a ++ (b ++ c)) ++ d
    regroup a b c d = simp append_assoc

pub put_past : (p r : List ℕ) (at n v : ℕ) → Bytes p → put_at (p ++ r) (8 * length p + at) n v ≡ p ++ put_at r at n v
unfolding put_at put_bits
put_past p r at n v b =
    let x : List ℕ = bits_of p in
    let y : List ℕ = bits_of r in
    let l : length x ≡ 8 * length p = length_bits p in
    let a : 8 * length p + at ≡ length x + at = omega arith in
    let c : 8 * length p + at + n ≡ length x + (at + n) = omega arith in
    let e : put_bits (bits_of (p ++ r)) (8 * length p + at) n v ≡ x ++ put_bits y at n v =
    ap (λ (z : List ℕ). put_bits z (8 * length p + at) n v) (bits_append p r)
    ∙ ap₂ (λ (i j : ℕ). take i (x ++ y) ++ (to_bits n v ++ drop j (x ++ y))) a c
    ∙ ap₂ (λ (u w : List ℕ). u ++ (to_bits n v ++ w)) (take-append-add x y at) (drop-append-add x y (at + n))
    ∙ append_assoc x (take at y) (to_bits n v ++ drop (at + n) y)
    in
    ap₂ (λ (k : ℕ) (z : List ℕ). bytes_of k z) (length-append p r) e
    ∙ bytes-append (length p) (length r) (x ++ put_bits y at n v)
    ∙ ap₂ (λ (u w : List ℕ). u ++ w)
    (bytes-front (length p) x (put_bits y at n v) (omega arith) ∙ bytes_bits p b)
    (ap (bytes_of (length r)) (drop_at x (put_bits y at n v) (8 * length p) l))
