-- Numbers of 32 bits with a sign, and decimal digits: one law for each way on.
-- Assumes nothing.
use Prim.Native.Nat.{ℕ, zero, suc, ◌+◌, ◌-◌, ◌*◌, ◌^◌, ◌≤◌, ◌<◌}
use mathlib.Core.Path.{◌≡◌, refl, ap, ◌∙◌}
use mathlib.Core.Bool.{Bool, true, false, ◌&&◌}
use mathlib.Core.List.{List, [], ◌∷◌}
use Rattle.std.specs.Prelude.{None, Some}
use Rattle.std.proofs.lemmas.Option.{none-some, same_Some}
use native.Mathlib.Nat.{not-suc-le-zero, pow-le-pow_right}
use native.Mathlib.Numerals.{add-one}
use native.Mathlib.Omega.{arith}
use borrow.Author.Tests.{le-ltb, lt-ltb, leb-true}
use mir.Syntax.{w32}
use mir.Val.{SFits, to_z, of_z}
use mir.Facts.{to_z_pos, to_z-of_z}
use lib.Dec.{leb, ltb, eqb}
use lib.IntN.{ℤ, pos, negsuc, ◌-ℤ◌}
use lib.ListN.{length, get_or, drop, drop_of_length-le}
use Rattle.lists.specs.Lists.{pick}
use Rattle.lists.specs.Bytes.{is_digit}
use Rattle.lists.proofs.Tests.{and_both, and-false}
use Rattle.lists.proofs.Rest.{rest_at}
use Rattle.rules.specs.Setting.{minus, with_sign, digits_from, integer_of}

-- ---- below zero

minus_one : (n : ℕ) → negsuc 0 -ℤ pos n ≡ negsuc n
minus_one zero = refl
minus_one (suc n) = ap negsuc (omega arith)

-- -1 - n, at the bits of n
flip : (n : ℕ) → n < 2147483648 → negsuc 0 -ℤ to_z w32 n ≡ negsuc n
flip n h = ap (λ (z : ℤ). negsuc 0 -ℤ z) (to_z_pos w32 h) ∙ minus_one n

pub flip_fits : (n : ℕ) → n < 2147483648 → SFits w32 (negsuc 0 -ℤ to_z w32 n)
flip_fits n h = rw (flip n h) (record { sfits = h })

pub flip_back : (n : ℕ) → n < 2147483648 → to_z w32 (of_z w32 (negsuc 0 -ℤ to_z w32 n)) ≡ negsuc n
flip_back n h = to_z-of_z (flip_fits n h) ∙ flip n h

pub minus_pos : (m : ℕ) → 0 < m → minus m ≡ negsuc (m - 1)
minus_pos zero h = absurd (not-suc-le-zero h)
minus_pos (suc m) h = ap negsuc (omega arith)

-- ---- decimal digits

pub digit_bounds : (b : ℕ) → is_digit b ≡ true → (48 ≤ b) × (b ≤ 57)
digit_bounds b e = let p = and_both (leb 48 b) (leb b 57) e in (leb-true 48 b p.0, leb-true b 57 p.1)

pub ten_more : (m d n : ℕ) → m < 10 ^ n → d < 10 → m * 10 + d < 10 ^ (n + 1)
ten_more m d n h k = rw add-one (omega arith)

pub ten_room : (m n : ℕ) → m < 10 ^ n → n ≤ 10 → m < 10000000000
ten_room m n h k = let p : 10 ^ n ≤ 10 ^ 10 = pow-le-pow_right {n = 10} (omega arith) {i = n} {j = 10} k in omega arith

module _ (s : List ℕ) (i n m : ℕ) (g : Bool) where
  pub digit_more : i < length s → is_digit (get_or s i 0) ≡ true → n < 10
      → digits_from (drop i s) n m g ≡ digits_from (drop (i + 1) s) (n + 1) (m * 10 + (get_or s i 0 - 48)) g
  unfolding digits_from
  digit_more h t k = rw (rest_at s i h, t, lt-ltb n 10 k)

  pub digit_not : i < length s → is_digit (get_or s i 0) ≡ false → digits_from (drop i s) n m g ≡ None
  unfolding digits_from
  digit_not h t = rw (rest_at s i h, t)

  pub digit_many : i < length s → 10 ≤ n → digits_from (drop i s) n m g ≡ None
  unfolding digits_from
  digit_many h k = rw (rest_at s i h, le-ltb n 10 k, and-false (is_digit (get_or s i 0)))

  pub digits-end : length s ≤ i → digits_from (drop i s) n m g ≡ pick (eqb n 0) None (with_sign g m)
  unfolding digits_from
  digits-end h = rw (drop_of_length-le s h)

-- ---- the range

minus-fits : (m : ℕ) → m ≤ 2147483648 → SFits w32 (minus m)
minus-fits zero h = record { sfits = omega arith }
minus-fits (suc m) h = record { sfits = omega arith }

sign_fits : (g : Bool) (m : ℕ) (z : ℤ) → with_sign g m ≡ Some z → SFits w32 z
sign_fits true m z e = go (leb m 2147483648) refl e
  where
    go : (t : Bool) → leb m 2147483648 ≡ t → pick t (Some (minus m)) None ≡ Some z → SFits w32 z
    go true h q = rw (← same_Some (minus m) z q) (minus-fits m (leb-true m 2147483648 h))
    go false h q = absurd (none-some z q)
sign_fits false m z e = go (leb m 2147483647) refl e
  where
    go : (t : Bool) → leb m 2147483647 ≡ t → pick t (Some (pos m)) None ≡ Some z → SFits w32 z
    go true h q = rw (← same_Some (pos m) z q) (record { sfits = omega (arith, leb-true m 2147483647 h) })
    go false h q = absurd (none-some z q)

digits_fit : (bs : List ℕ) (n m : ℕ) (g : Bool) (z : ℤ) → digits_from bs n m g ≡ Some z → SFits w32 z
unfolding digits_from
digits_fit [] n m g z e = go (eqb n 0) e
  where
    go : (t : Bool) → pick t None (with_sign g m) ≡ Some z → SFits w32 z
    go true q = absurd (none-some z q)
    go false q = sign_fits g m z q
digits_fit (b ∷ bs) n m g z e = go (is_digit b && ltb n 10) e (λ q. digits_fit bs (n + 1) (m * 10 + (b - 48)) g z q)
  where
    go : (t : Bool) → pick t (digits_from bs (n + 1) (m * 10 + (b - 48)) g) None ≡ Some z
        → (digits_from bs (n + 1) (m * 10 + (b - 48)) g ≡ Some z → SFits w32 z) → SFits w32 z
    go true q others = others q
    go false q others = absurd (none-some z q)

pub integer_fits : (bs : List ℕ) (z : ℤ) → integer_of bs ≡ Some z → SFits w32 z
unfolding integer_of
integer_fits bs z e = go (eqb (get_or bs 0 0) 45) e
  where
    go : (t : Bool) → pick t (digits_from (drop 1 bs) 0 0 true) (digits_from bs 0 0 false) ≡ Some z → SFits w32 z
    go true q = digits_fit (drop 1 bs) 0 0 true z q
    go false q = digits_fit bs 0 0 false z q
