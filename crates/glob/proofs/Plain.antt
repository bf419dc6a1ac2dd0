-- Plain patterns, byte by byte and group by group.
-- Assumes nothing.
use Prim.Native.Nat.{ℕ, zero, suc, ◌+◌, ◌≤◌, ◌<◌}
use mathlib.Core.Path.{◌≡◌, refl, sym}
use mathlib.Core.Bool.{Bool, true, false, not}
use mathlib.Core.List.{List, [], ◌∷◌}
use mathlib.Core.Logic.{⊎_elim}
use native.Mathlib.Nat.{eq-or-lt_of_le}
use native.Mathlib.Omega.{arith}
use borrow.Author.Tests.{ltb-true, ltb-false, ne_eqb}
use lib.Dec.{ltb}
use lib.ListN.{length, get_or}
use Rattle.lists.specs.Lists.{all}
use Rattle.lists.proofs.Scan.{all_fails}
use Rattle.scan.specs.Groups.{LacksFrom, Met}
use Rattle.pattern.specs.Pattern.{is_special, is_plain}
use Rattle.glob.specs.Plain.{PlainFrom, GroupIs}

abbrev plain_byte : ℕ → Bool
plain_byte b = not (is_special b)

-- ---- a group

pub no_special : (s : List ℕ) (i j : ℕ) → LacksFrom 42 s i j → LacksFrom 63 s i j → LacksFrom 91 s i j → LacksFrom 124 s i j → PlainFrom s i j
no_special s i j star one set bar k a l =
    rw (ne_eqb (get_or s k 0) 42 (star k a l), ne_eqb (get_or s k 0) 63 (one k a l), ne_eqb (get_or s k 0) 91 (set k a l), ne_eqb (get_or s k 0) 124 (bar k a l))

-- a byte that does not stand for itself
pub special_met : (b : ℕ) → is_special b ≡ true → (s : List ℕ) (i j : ℕ) → j ≤ length s → Met b s i j → is_plain s ≡ false
special_met b t s i j h m = all_fails plain_byte s m.place (omega (arith, m.before)) (rw (m.is, t))

pub group_special : (b : ℕ) → is_special b ≡ true → (s : List ℕ) (i j : ℕ) → j ≤ length s → Met b s i j → GroupIs true s i j
group_special b t s i j h m = record { none = λ e. let z : ◌≡◌ {A = ℕ} 0 1 = cc e in absurd (omega arith); some = λ e. special_met b t s i j h m }

-- as code meets one
pub special_at : (s : List ℕ) (k : ℕ) → k < length s → not (is_special (get_or s k 0)) ≡ false → is_plain s ≡ false
special_at s k h e = all_fails plain_byte s k h e

-- ---- from a place to another

module _ (s : List ℕ) (i j : ℕ) (f : PlainFrom s i j) where
  pub plain_more : is_special (get_or s j 0) ≡ false → PlainFrom s i (j + 1)
  plain_more e k a l = let m : k ≤ j = omega arith in ⊎_elim (λ z. rw z e) (λ m. f k a m) (eq-or-lt_of_le m)

  -- two parts that may overlap
  pub plain_both : (m n : ℕ) → m ≤ j → PlainFrom s m n → PlainFrom s i n
  plain_both m n h g k a l = go (ltb k j) refl
    where
      go : (t : Bool) → ltb k j ≡ t → is_special (get_or s k 0) ≡ false
      go true e = f k a (ltb-true k j e)
      go false e = let z = ltb-false k j e in g k (omega arith) l

-- the whole pattern
plain_each : (s : List ℕ) → ((k : ℕ) → k < length s → is_special (get_or s k 0) ≡ false) → is_plain s ≡ true
plain_each [] f = refl
plain_each (b ∷ s) f = rw (f 0 (omega arith), plain_each s (λ k h. f (suc k) (omega arith)))

pub plain-whole : (s : List ℕ) (j : ℕ) → length s ≤ j → PlainFrom s 0 j → is_plain s ≡ true
plain-whole s j h f = plain_each s (λ k l. f k (omega arith) (omega arith))

-- the last group decides, where those before it are plain
pub plain_last : (s : List ℕ) (j m n : ℕ) → PlainFrom s 0 j → m ≤ j → length s ≤ n → (r : Bool) → GroupIs r s m n → not r ≡ is_plain s
plain_last s j m n f h l true g = sym (g.some refl)
plain_last s j m n f h l false g = sym (plain-whole s n l (plain_both s 0 j f m n h (g.none refl)))
