-- Bytes from a place to another that lie above newline, or are not some byte: one more, those of two parts, and the run that goes on behind them.
-- Assumes nothing.
use Prim.Native.Nat.{ℕ, zero, suc, ◌+◌, ◌-◌, ◌≤◌, ◌<◌}
use mathlib.Core.Path.{◌≡◌, refl, sym, ◌∙◌}
use mathlib.Core.Bool.{Bool, true, false}
use mathlib.Core.List.{List}
use mathlib.Core.Logic.{⊎_elim}
use native.Mathlib.Nat.{eq-or-lt_of_le}
use native.Mathlib.Omega.{arith}
use borrow.Author.Tests.{ltb-true, ltb-false, ne_eqb}
use lib.Dec.{ltb}
use lib.ListN.{length, get_or}
use Rattle.scan.specs.Ends.{RunEnd, is_not}
use Rattle.scan.specs.Groups.{LacksFrom, Met, AboveFrom}
use Rattle.scan.proofs.Ends.{Follows, run-begins, run-goes-on, run_out}

module _ (s : List ℕ) (i j : ℕ) (f : AboveFrom s i j) where
  pub above_more : 10 < get_or s j 0 → AboveFrom s i (j + 1)
  above_more h k a b = let l : k ≤ j = omega arith in ⊎_elim (λ e. rw e h) (λ l. f k a l) (eq-or-lt_of_le l)

  pub above_both : (m : ℕ) → AboveFrom s j m → AboveFrom s i m
  above_both m g k a b = go (ltb k j) refl
    where
      go : (t : Bool) → ltb k j ≡ t → 10 < get_or s k 0
      go true e = f k a (ltb-true k j e)
      go false e = g k (ltb-false k j e) b

-- what goes on over a place of which something is known goes on over all such places
module _ (P Q : ℕ → Type 0) (i j : ℕ) (f : (k : ℕ) → i ≤ k → k < j → Q k) (on : (k : ℕ) → i ≤ k → k < j → Q k → P k → P (k + 1)) (p : P i) where
  climb : (n : ℕ) → i + n ≤ j → P (i + n)
  climb zero h = let q : i + 0 ≡ i = omega arith in rw q p
  climb (suc n) h = let q : i + suc n ≡ (i + n) + 1 = omega arith in rw q (on (i + n) (omega arith) (omega arith) (f (i + n) (omega arith) (omega arith)) (climb n (omega arith)))

  over : i ≤ j → P j
  over h = let q : i + (j - i) ≡ j = omega arith in rw q at (climb (j - i) (omega arith))

-- what goes on over a byte above newline goes on over all of them
pub above_climb : (P : ℕ → Type 0) (s : List ℕ) (i j : ℕ) → AboveFrom s i j → ((k : ℕ) → i ≤ k → k < j → 10 < get_or s k 0 → P k → P (k + 1)) → P i → i ≤ j → P j
above_climb P s i j f on p h = over P (λ k. 10 < get_or s k 0) i j f on p h

module _ (s : List ℕ) (i j : ℕ) (f : AboveFrom s i j) (h : i ≤ j) (w : j ≤ length s) where
  pub above_follows : Follows (is_not 10) s i j
  above_follows = above_climb (Follows (is_not 10) s i) s i j f (λ k a l b r. run-goes-on (is_not 10) s i k r (omega arith) (rw (ne_eqb (get_or s k 0) 10 (λ e. omega arith)))) (run-begins (is_not 10) s i) h

  -- the run from a place behind them
  pub above-run : (r : ℕ) → RunEnd (is_not 10) s j r → RunEnd (is_not 10) s i r
  above-run r e = record { place = e.place ∙ above_follows.whole; from = omega (arith, e.from); within = omega (arith, e.from, e.within) }

-- ---- a byte that is not there

module _ (b : ℕ) (s : List ℕ) (i j : ℕ) where
  pub lacks_more : LacksFrom b s i j → (get_or s j 0 ≡ b → ⊥) → LacksFrom b s i (j + 1)
  lacks_more f n k a l = let m : k ≤ j = omega arith in ⊎_elim (λ e. rw e n) (λ m. f k a m) (eq-or-lt_of_le m)

  -- two parts that may overlap
  pub lacks_both : (m n : ℕ) → m ≤ j → LacksFrom b s i j → LacksFrom b s m n → LacksFrom b s i n
  lacks_both m n h f g k a l = go (ltb k j) refl
    where
      go : (t : Bool) → ltb k j ≡ t → get_or s k 0 ≡ b → ⊥
      go true e = f k a (ltb-true k j e)
      go false e = let z = ltb-false k j e in g k (omega arith) l

  -- up to the end
  pub lacks_run : LacksFrom b s i j → i ≤ j → j ≡ length s → RunEnd (is_not b) s i j
  lacks_run f h e =
      run_out (is_not b) s i j
      (over (Follows (is_not b) s i) (λ k. get_or s k 0 ≡ b → ⊥) i j f (λ k a l n r. run-goes-on (is_not b) s i k r (omega arith) (rw (ne_eqb (get_or s k 0) b n))) (run-begins (is_not b) s i) h) (omega arith)

  -- one was met before, or the last one is it
  pub met-more : Met b s i j → Met b s i (j + 1)
  met-more w = record { place = w.place; from = w.from; before = omega (arith, w.before); is = w.is }
