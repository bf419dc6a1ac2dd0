-- A number written digit by digit, from its last one on.
-- Assumes nothing.
use Prim.Native.Nat.{ℕ, zero, suc, ◌+◌, ◌-◌, ◌*◌, ◌/◌, ◌%◌, ◌^◌, ◌≤◌, ◌<◌}
use mathlib.Core.Path.{◌≡◌, sym, ◌∙◌}
use mathlib.Core.List.{List, ◌∷◌}
use native.Mathlib.Omega.{arith}
use native.Mathlib.Numerals.{add-one}
use native.Mathlib.Nat.{pow-suc, div-lt_iff_lt-mul}
use borrow.Author.Tests.{le-ltb, lt-ltb}
use lib.ListN.{length, drop, set, length-set, drop_of_length-le}
use lib.Seq.{drop-cons, get_or-set_same, drop-set-lt}
use Rattle.template.specs.Decimal.{decimal_on, decimal}

-- one digit of several, and the last one
decimal-more : (k m : ℕ) (done : List ℕ) → 10 ≤ m → decimal_on (suc k) m done ≡ decimal_on k (m / 10) ((48 + m % 10) ∷ done)
unfolding decimal_on
decimal-more k m done h = rw (le-ltb m 10 h, decimal_on)

decimal_last : (k m : ℕ) (done : List ℕ) → m < 10 → decimal_on (suc k) m done ≡ (48 + m) ∷ done
unfolding decimal_on
decimal_last k m done h = rw (lt-ltb m 10 h, decimal_on)

-- a digit set before those that are there
digit_first : (d : List ℕ) (s v : ℕ) → s < length d → drop s (set d s v) ≡ v ∷ drop (suc s) d
digit_first d s v h =
    let k : s < length (set d s v) = omega (arith, length-set d s v) in
    rw (drop-cons (set d s v) s 0 k, get_or-set_same d s v 0 h, drop-set-lt (suc s) d s v (omega arith))

-- what is left of a number, to be written before the digits from place s + 1 on
pub record Writing (n : ℕ) (d : List ℕ) (s m : ℕ) : Type 0 where
  pub size : length d ≡ 10
  pub inside : s < 10
  pub small : m < 10 ^ (s + 1)
  pub whole : decimal_on (s + 1) m (drop (s + 1) d) ≡ decimal n

more-places : (s m : ℕ) → 9 < m → m < 10 ^ (s + 1) → 0 < s
more-places zero m h k = absurd (omega arith)
more-places (suc s) m h k = omega arith

pub writing_begins : (n : ℕ) (d : List ℕ) → length d ≡ 10 → n < 4294967296 → Writing n d 9 n
writing_begins n d e h = record {
  size = e;
  inside = omega arith;
  small = omega arith;
  whole = rw (drop_of_length-le d {i = 10} (omega arith));
}

module _ (n : ℕ) (d : List ℕ) (s m v : ℕ) (w : Writing n d s m) where
  pub places-left : 9 < m → 0 < s
  places-left h = more-places s m h w.small

  in_list : s < length d
  in_list = omega (arith, w.size, w.inside)

  pub writing_on : 9 < m → v ≡ 48 + m % 10 → Writing n (set d s v) (s - 1) (m / 10)
  writing_on h e =
      let z : s - 1 + 1 ≡ s = omega (arith, places-left h) in
      let k : m < 10 ^ s * 10 = rw (add-one s, pow-suc 10 s) at w.small in
      let o : decimal_on (suc s) m (drop (suc s) d) ≡ decimal n = rw (add-one s) at w.whole in
      record {
        size = length-set d s v ∙ w.size;
        inside = omega (arith, w.inside);
        small = rw z ((div-lt_iff_lt-mul {k = 10} {x = m} {y = 10 ^ s} (omega arith)).1 k);
        whole = rw (z, digit_first d s v in_list, e) (sym (decimal-more s m (drop (suc s) d) h) ∙ o);
      }

  pub writing_ends : m ≤ 9 → v ≡ 48 + m → drop s (set d s v) ≡ decimal n
  writing_ends h e =
      let o : decimal_on (suc s) m (drop (suc s) d) ≡ decimal n = rw (add-one s) at w.whole in
      rw (digit_first d s v in_list, e) (sym (decimal_last s m (drop (suc s) d) (omega arith)) ∙ o)
