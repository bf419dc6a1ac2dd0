-- Laws of the bytes that a field touches: the field cut out of their number, and another put in its place.
-- Assumes nothing.
use Prim.Native.Nat.{ℕ, suc, ◌+◌, ◌-◌, ◌*◌, ◌/◌, ◌%◌, ◌^◌, ◌≤◌, ◌<◌}
use mathlib.Core.Path.{◌≡◌, sym, ap, ap₂, ◌∙◌}
use mathlib.Core.List.{List, ◌∷◌, ◌++◌, append_assoc}
use native.Mathlib.Nat.{mod-lt, div-one, mul-le-mul, one-mul}
use native.Mathlib.Omega.{arith}
use lib.Dec.{lit<}
use lib.ListN.{length, take, drop, set, length-drop, take-append-drop}
use lib.Pow.{pow_pos, pow_mono, shr-shr, shr_le, split, shl_exact}
use lib.Seq.{take_at, drop-drop, length-take-le}
use Rattle.lists.specs.Bytes.{Bytes}
use Rattle.lists.proofs.Moves.{ap_at, drop_past, set_last, bytes_take, bytes_drop}
use Rattle.bits.specs.Bits.{to_bits, from_bits, bits_of, bytes_of, number_at, put_bits, put_at}
use Rattle.bits.proofs.Bits.{length-to_bits, to_bits-append, to_bits-mod, to_bits-join, to-from_at, length_bits, bits_bits, bits_drop, bits_take}
use Rattle.bits.proofs.Numbers.{number_lt, number_window}
use Rattle.bits.proofs.Puts.{put_front, put_past}
use Rattle.bits.proofs.Fields.{digits, bytes-digits}

-- ---- powers

pub one_shl : (n : ℕ) → n ≤ 32 → 1 * 2 ^ n % 2 ^ 64 ≡ 2 ^ n
one_shl n h = shl_exact {a = 1} 1 n 64 (lit< tt) (omega arith) ∙ one-mul (2 ^ n)

-- n bits make less than 2 ^ m for any m from n on
pub number_room : (s : List ℕ) (at n m : ℕ) → n ≤ m → number_at s at n < 2 ^ m
number_room s at n m h =
    let p : 2 ^ n ≤ 2 ^ m = pow_mono h in
    let l = number_lt s at n in
    omega arith

-- ---- one number in place of another

-- w with the low n bits of v before its last c bits
abbrev pub merged : ℕ → ℕ → ℕ → ℕ → ℕ
merged w n c v = (w / 2 ^ (n + c) * 2 ^ n + v % 2 ^ n) * 2 ^ c + w % 2 ^ c

pub merged_bits : (w b n c v : ℕ) → put_bits (to_bits (b + n + c) w) b n v ≡ to_bits (b + n + c) (merged w n c v)
unfolding put_bits
merged_bits w b n c v =
    let hi : ℕ = w / 2 ^ (n + c) in
    let h : List ℕ = to_bits b hi in
    let lh : length h ≡ b = length-to_bits b hi in
    let m : List ℕ = to_bits n (w / 2 ^ c) in
    let e : to_bits (b + n + c) w ≡ h ++ (m ++ to_bits c w) =
    to_bits-append (b + n) c w
    ∙ ap (λ (x : List ℕ). x ++ to_bits c w)
    (to_bits-append b n (w / 2 ^ c) ∙ ap (λ (x : ℕ). to_bits b x ++ m) (shr-shr w c n ∙ ap_at (λ i. w / 2 ^ i) (c + n) (n + c) (omega arith)))
    ∙ append_assoc h m (to_bits c w)
    in
    let f : to_bits (b + n + c) (merged w n c v) ≡ h ++ (to_bits n v ++ to_bits c w) =
    to_bits-join (b + n) c (hi * 2 ^ n + v % 2 ^ n) (w % 2 ^ c) (mod-lt w (pow_pos c))
    ∙ ap₂ (λ (x y : List ℕ). x ++ y)
    (to_bits-join b n hi (v % 2 ^ n) (mod-lt v (pow_pos n)) ∙ ap (λ (x : List ℕ). h ++ x) (to_bits-mod n v))
    (to_bits-mod c w)
    ∙ append_assoc h (to_bits n v) (to_bits c w)
    in
    ap (λ (x : List ℕ). take b x ++ (to_bits n v ++ drop (b + n) x)) e
    ∙ ap₂ (λ (x y : List ℕ). x ++ (to_bits n v ++ y)) (take_at h (m ++ to_bits c w) b lh)
    (drop_past h m (to_bits c w) b (b + n) lh (ap (λ (i : ℕ). b + i) (length-to_bits n (w / 2 ^ c))))
    ∙ sym f

-- its parts and the whole stay below 2 ^ 64
module _ (w n c v : ℕ) (hn : n ≤ 32) (hc : c < 8) (hw : w < 2 ^ 40) where
  pub high_room : w / 2 ^ (n + c) * 2 ^ n ≤ w
  high_room =
      let a : w / 2 ^ (n + c) ≤ w / 2 ^ n = rw (← shr-shr w n c) (shr_le (w / 2 ^ n) c) in
      let b : w / 2 ^ (n + c) * 2 ^ n ≤ w / 2 ^ n * 2 ^ n = mul-le-mul a (omega arith) in
      omega (arith, split w n)

  pub low_room : v % 2 ^ n < 2 ^ 32
  low_room =
      let p : 2 ^ n ≤ 2 ^ 32 = pow_mono {i = n} {j = 32} hn in
      omega (arith, mod-lt v (pow_pos n))

  pub merged_room : (w / 2 ^ (n + c) * 2 ^ n + v % 2 ^ n) * 2 ^ c ≤ (2 ^ 40 + 2 ^ 32) * 2 ^ 7
  merged_room =
      let p : 2 ^ c ≤ 2 ^ 7 = pow_mono {i = c} {j = 7} (omega arith) in
      let h : w / 2 ^ (n + c) * 2 ^ n + v % 2 ^ n ≤ 2 ^ 40 + 2 ^ 32 = omega (arith, high_room, low_room) in
      mul-le-mul h p

  pub rest_room : w % 2 ^ c < 2 ^ 7
  rest_room =
      let p : 2 ^ c ≤ 2 ^ 7 = pow_mono {i = c} {j = 7} (omega arith) in
      omega (arith, mod-lt w (pow_pos c))

-- ---- a field by the bytes that it touches

module _ (s : List ℕ) (at n first count before behind : ℕ) (start : 8 * first + before ≡ at) (end : before + n + behind ≡ 8 * count) (inside : first + count ≤ length s) where
  pub window_cut : number_at s at n ≡ number_at s (8 * first) (8 * count) / 2 ^ behind % 2 ^ n
  window_cut = ap (λ (a : ℕ). number_at s a n) (sym start) ∙ number_window s (8 * first) (8 * count) before n behind end (omega arith)

  pub window_merged : (v w : ℕ) → Bytes s → w ≡ number_at s (8 * first) (8 * count)
      → take first s ++ (bytes_of count (to_bits (8 * count) (merged w n behind v)) ++ drop (first + count) s) ≡ put_at s at n v
  unfolding number_at put_at
  window_merged v w b e =
      let p : List ℕ = take first s in
      let g : List ℕ = take count (drop first s) in
      let r : List ℕ = drop (first + count) s in
      let lp : length p ≡ first = length-take-le first s (omega arith) in
      let lg : length g ≡ count = length-take-le count (drop first s) (simp length-drop (omega arith)) in
      let parts : s ≡ p ++ (g ++ r) =
      sym (take-append-drop first s)
      ∙ ap (λ (x : List ℕ). p ++ x) (sym (take-append-drop count (drop first s)) ∙ ap (λ (x : List ℕ). g ++ x) (drop-drop count first s))
      in
      let f : from_bits (bits_of g) ≡ w =
      ap from_bits (sym (bits_take count (drop first s) (simp length-drop (omega arith))) ∙ ap (take (8 * count)) (sym (bits_drop first s))) ∙ sym e
      in
      let bits : bits_of g ≡ to_bits (before + n + behind) w =
      sym (to-from_at (8 * count) (bits_of g) (length_bits g ∙ ap (λ (i : ℕ). 8 * i) lg) (bits_bits g)) ∙ ap₂ to_bits (sym end) f
      in
      let window : put_at g before n v ≡ bytes_of count (to_bits (8 * count) (merged w n behind v)) =
      ap₂ (λ (i : ℕ) (x : List ℕ). bytes_of i (put_bits x before n v)) lg bits
      ∙ ap (bytes_of count) (merged_bits w before n behind v ∙ ap (λ (i : ℕ). to_bits i (merged w n behind v)) end)
      in
      sym
      (ap (λ (x : List ℕ). put_at x at n v) parts
      ∙ ap_at (λ a. put_at (p ++ (g ++ r)) a n v) at (8 * length p + before) (omega arith)
      ∙ put_past p (g ++ r) before n v (bytes_take first s b)
      ∙ ap (λ (x : List ℕ). p ++ x) (put_front g r before n v (omega arith) (bytes_drop (first + count) s b) ∙ ap (λ (x : List ℕ). x ++ r) window))

-- ---- writing the bytes of a number, from the last one on

-- what stands when i of k bytes are still to be written
abbrev pub written : List ℕ → ℕ → ℕ → ℕ → ℕ → List ℕ
written s first k w i = take (first + i) s ++ (digits (k - i) w ++ drop (first + k) s)

module _ (s : List ℕ) (first k w : ℕ) where
  pub written_none : s ≡ written s first k w k
  written_none =
      let e : k - k ≡ 0 = omega arith in
      rw e (sym (take-append-drop (first + k) s))

  pub written_start : w ≡ w / 2 ^ (8 * (k - k))
  written_start =
      let e : k - k ≡ 0 = omega arith in
      rw e (sym (div-one w))

  pub written_step : (t : List ℕ) (i r : ℕ) → 0 < i → i ≤ k → first + k ≤ length s → t ≡ written s first k w i → r ≡ w / 2 ^ (8 * (k - i))
      → set t (first + (i - 1)) (r % 256) ≡ written s first k w (i - 1)
  written_step t i r h l m e f =
      let j : ℕ = i - 1 in
      let q : List ℕ = digits (k - i) w ++ drop (first + k) s in
      let d : k - j ≡ suc (k - i) = omega arith in
      ap (λ (x : List ℕ). set x (first + j) (r % 256)) (e ∙ ap_at (λ a. take a s ++ q) (first + i) (suc (first + j)) (omega arith))
      ∙ set_last s q (first + j) (r % 256) (omega arith)
      ∙ ap (λ (x : ℕ). take (first + j) s ++ (x % 256 ∷ q)) f
      ∙ sym (ap (λ (a : ℕ). take (first + j) s ++ (digits a w ++ drop (first + k) s)) d)

  pub written-rest : (i r : ℕ) → 0 < i → i ≤ k → r ≡ w / 2 ^ (8 * (k - i)) → r / 256 ≡ w / 2 ^ (8 * (k - (i - 1)))
  written-rest i r h l f =
      ap (λ (x : ℕ). x / 256) f ∙ shr-shr w (8 * (k - i)) 8 ∙ ap_at (λ a. w / 2 ^ a) (8 * (k - i) + 8) (8 * (k - (i - 1))) (omega arith)

  pub written_all : (t : List ℕ) (i : ℕ) → i ≡ 0 → t ≡ written s first k w i → t ≡ take first s ++ (bytes_of k (to_bits (8 * k) w) ++ drop (first + k) s)
  written_all t i z e =
      let a : first + i ≡ first = omega arith in
      let d : k - i ≡ k = omega arith in
      e
      ∙ ap₂ (λ (x y : ℕ). take x s ++ (digits y w ++ drop (first + k) s)) a d
      ∙ ap (λ (x : List ℕ). take first s ++ (x ++ drop (first + k) s)) (sym (bytes-digits k w))
