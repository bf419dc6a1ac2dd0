-- The rules of a table one by one, and their rows.
-- Assumes nothing.
use Prim.Native.Nat.{ℕ, zero, suc, ◌+◌, ◌-◌, ◌*◌, ◌≤◌, ◌<◌}
use mathlib.Core.Path.{◌≡◌, refl, ap, ◌∙◌}
use mathlib.Core.Bool.{true, false}
use mathlib.Core.List.{List, [], ◌∷◌, ◌++◌}
use native.Mathlib.Numerals.{add-one}
use native.Mathlib.Omega.{arith}
use Rattle.lists.specs.Checked.{Placed}
use Rattle.lists.proofs.Moves.{ap_at}
use Rattle.rules.specs.Pair.{Rule}
use Rattle.std.specs.Prelude.{Option, None, Some}
use Rattle.std.specs.Prelude as std
use borrow.Author.Tests.{ne_eqb}
use lib.ListN.{length, get_or}
use Rattle.table.specs.Table.{pair_at, rule_at, rules_from, Rows, Segment}
use Rattle.table.specs.Rules.{value_in, mark_of}

module _ (v r t : List ℕ) where
  pub rules-step : (i n : ℕ) → i < n → rules_from v r t i (n - i) ≡ rule_at v r t i ∷ rules_from v r t (i + 1) (n - (i + 1))
  unfolding rules_from
  rules-step i n h =
      let e : n - i ≡ suc (n - suc i) = omega arith in
      ap (rules_from v r t i) e ∙ ap_at (λ k. rule_at v r t i ∷ rules_from v r t k (n - k)) (suc i) (i + 1) (omega arith)

  pub rules-end : (i n : ℕ) → n ≤ i → rules_from v r t i (n - i) ≡ []
  unfolding rules_from
  rules-end i n h = let e : n - i ≡ 0 = omega arith in rw e

  snoc : (i k : ℕ) → rules_from v r t i (suc k) ≡ rules_from v r t i k ++ (rule_at v r t (i + k) ∷ [])
  unfolding rules_from
  snoc i zero = ap_at (λ n. rule_at v r t n ∷ []) i (i + 0) (omega arith)
  snoc i (suc k) =
      ap (λ (x : List (Placed Rule)). rule_at v r t i ∷ x)
      (snoc (suc i) k ∙ ap_at (λ n. rules_from v r t (suc i) k ++ (rule_at v r t n ∷ [])) (suc i + k) (i + suc k) (omega arith))

  pub rules_snoc : (n : ℕ) → rules_from v r t 0 (n + 1) ≡ rules_from v r t 0 n ++ (rule_at v r t n ∷ [])
  rules_snoc n = rw add-one (snoc 0 n ∙ ap_at (λ k. rules_from v r t 0 n ++ (rule_at v r t k ∷ [])) (0 + n) n (omega arith))

-- the first rows of those that there are
pub segment : (v r : List ℕ) (m used n : ℕ) → Rows v r m used → n ≤ m → Segment v r n
segment v r m used n w h = record {
  room = omega (arith, w.room);
  within = λ i k.
      let x = w.within i (omega arith) in
      record { argument = x.argument; value = x.value; within = omega (arith, x.within, w.filled); plain = x.plain };
}

-- where the value of a row lies
pub row-places : (v r : List ℕ) (m used : ℕ) → Rows v r m used → (row : ℕ) → row < m
    → (row * 4 + 4 ≤ length r) × (get_or r (row * 4 + 2) 0 ≤ get_or r (row * 4 + 3) 0) × (get_or r (row * 4 + 3) 0 ≤ length v)
row-places v r m used w row h = let b = w.within row h in (omega (arith, w.room), b.value, omega (arith, b.within, w.filled))

pub value-row : (v r : List ℕ) (row : ℕ) → value_in v r (row + 1) ≡ Some (pair_at v r row).value
value-row v r row =
    let d : row + 1 ≡ 0 → ⊥ = λ e. omega arith in
    rw (ne_eqb (row + 1) 0 d) (ap_at (λ i. Some (pair_at v r i).value) (row + 1 - 1) row (omega arith))

-- none is noted as 0, and a row as another number
pub none-mark : (o : Option ℕ) → std.is_some o ≡ false → mark_of o ≡ 0
none-mark None e = refl
none-mark (Some k) e = let z : ◌≡◌ {A = ℕ} 0 1 = cc in absurd (omega arith)

pub some-mark : (o : Option ℕ) → std.is_some o ≡ true → 0 < mark_of o
some-mark None e = let z : ◌≡◌ {A = ℕ} 0 1 = cc in absurd (omega arith)
some-mark (Some k) e = omega arith
