-- Laws of numbers of 32 bits in two's complement.
-- Assumes nothing.
use Prim.Native.Nat.{ℕ, zero, suc, ◌-◌, ◌≤◌, ◌<◌}
use mathlib.Core.Path.{◌≡◌, refl, ap, ◌∙◌}
use mathlib.Core.Bool.{Bool, true, false}
use native.Mathlib.Nat.{not-suc-le-zero}
use native.Mathlib.Decide.{dec_lt}
use native.Mathlib.Omega.{arith}
use borrow.Author.Tests.{ltb-true, le-ltb, lt-ltb}
use mir.Facts.{to_z_pos, to_z-of_z}
use mir.Syntax.{w32}
use mir.Val.{SFits, to_z, of_z}
use lib.IntN.{ℤ, pos, negsuc, ◌-ℤ◌}
use lib.Signed.{lt_z, mag}
use Rattle.bits.specs.Signed.{to_signed, from_signed}

-- ---- by its two cases

pub signed_low : (x : ℕ) → x < 2147483648 → to_signed x ≡ pos x
signed_low x h = rw (lt-ltb x 2147483648 h)

pub signed_high : (x : ℕ) → 2147483648 ≤ x → x < 4294967296 → to_signed x ≡ negsuc (4294967295 - x)
signed_high x h l = rw (le-ltb x 2147483648 h, lt-ltb x 4294967296 l) (ap negsuc (omega arith))

-- ---- each undoes the other

pub from-to-signed : (x : ℕ) → x < 4294967296 → from_signed (to_signed x) ≡ x
from-to-signed x l = go (dec_lt x 2147483648)
  where
    go : Dec (x < 2147483648) → from_signed (to_signed x) ≡ x
    go (yes h) = ap from_signed (signed_low x h)
    go (no h) = ap from_signed (signed_high x (omega arith) l) ∙ omega arith

pub to-from-signed : (z : ℤ) → mag z < 2147483648 → to_signed (from_signed z) ≡ z
to-from-signed (pos n) h = signed_low n h
to-from-signed (negsuc n) h = signed_high (4294967296 - suc n) (omega arith) (omega arith) ∙ ap negsuc (omega arith)

pub from-signed-lt : (z : ℤ) → mag z < 2147483648 → from_signed z < 4294967296
from-signed-lt (pos n) h = omega arith
from-signed-lt (negsuc n) h = omega arith

-- ---- what the machine computes: -1 less a number, both ways

minus_one : (n : ℕ) → negsuc 0 -ℤ pos n ≡ negsuc n
minus_one zero = refl
minus_one (suc n) = ap negsuc (omega arith)

flip : (n : ℕ) → n < 2147483648 → negsuc 0 -ℤ to_z w32 n ≡ negsuc n
flip n h = ap (λ (z : ℤ). negsuc 0 -ℤ z) (to_z_pos w32 h) ∙ minus_one n

pub flip_fits : (n : ℕ) → n < 2147483648 → SFits w32 (negsuc 0 -ℤ to_z w32 n)
flip_fits n h = rw (flip n h) (record { sfits = h })

pub flip_back : (n : ℕ) → n < 2147483648 → to_z w32 (of_z w32 (negsuc 0 -ℤ to_z w32 n)) ≡ negsuc n
flip_back n h = to_z-of_z (flip_fits n h) ∙ flip n h

sub_neg : (n : ℕ) → negsuc 0 -ℤ negsuc n ≡ pos n
sub_neg n = rw (le-ltb (suc n) 1 (omega arith)) (ap pos (omega arith))

neg_is : (n : ℕ) → n < 2147483648 → negsuc 0 -ℤ to_z w32 (of_z w32 (negsuc n)) ≡ pos n
neg_is n h = ap (λ (z : ℤ). negsuc 0 -ℤ z) (to_z-of_z {w = w32} {z = negsuc n} (record { sfits = h })) ∙ sub_neg n

pub neg_fits : (n : ℕ) → n < 2147483648 → SFits w32 (negsuc 0 -ℤ to_z w32 (of_z w32 (negsuc n)))
neg_fits n h = rw (neg_is n h) (record { sfits = h })

pub neg_back : (n : ℕ) → n < 2147483648 → to_z w32 (of_z w32 (negsuc 0 -ℤ to_z w32 (of_z w32 (negsuc n)))) ≡ pos n
neg_back n h = to_z-of_z (neg_fits n h) ∙ neg_is n h

pub pos-back : (n : ℕ) → n < 2147483648 → to_z w32 (of_z w32 (pos n)) ≡ pos n
pos-back n h = to_z-of_z {w = w32} {z = pos n} (record { sfits = h })

-- ---- what the machine's test tells

pub record Below (z : ℤ) : Type 0 where
  pub n : ℕ
  pub is : z ≡ negsuc n
  pub small : n < 2147483648

is_below : (z : ℤ) → SFits w32 z → lt_z z (pos 0) ≡ true → Below z
is_below (pos n) f t = absurd (not-suc-le-zero (ltb-true n 0 t))
is_below (negsuc n) f t = record { n = n; is = refl; small = f.sfits }

pub below : (z : ℤ) → SFits w32 z → lt_z (to_z w32 (of_z w32 z)) (pos 0) ≡ true → Below z
below z f t = is_below z f (rw (to_z-of_z f) at t)

pub record Above (z : ℤ) : Type 0 where
  pub n : ℕ
  pub is : z ≡ pos n
  pub small : n < 2147483648

is-above : (z : ℤ) → SFits w32 z → lt_z z (pos 0) ≡ false → Above z
is-above (pos n) f t = record { n = n; is = refl; small = f.sfits }
is-above (negsuc n) f t =
    let e : ◌≡◌ {A = Bool} true false = t in
    let z : ◌≡◌ {A = ℕ} 0 1 = cc in
    absurd (omega arith)

pub above : (z : ℤ) → SFits w32 z → lt_z (to_z w32 (of_z w32 z)) (pos 0) ≡ false → Above z
above z f t = is-above z f (rw (to_z-of_z f) at t)
