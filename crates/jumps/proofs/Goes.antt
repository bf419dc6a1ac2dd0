-- The rule that a GOTO goes to, and none.
-- Assumes nothing.
use Prim.Native.Nat.{ℕ, zero, suc, ◌+◌, ◌-◌, ◌*◌, ◌≤◌, ◌<◌}
use mathlib.Core.Path.{◌≡◌, refl, sym, ap, ◌∙◌}
use mathlib.Core.Bool.{Bool, true, false}
use mathlib.Core.List.{List, ◌∷◌}
use Rattle.std.specs.Prelude.{None, Some}
use native.Mathlib.Omega.{arith}
use borrow.Author.Tests.{eq-eqb, ltb-true, ltb-false}
use lib.Dec.{ltb}
use lib.ListN.{get_or}
use Rattle.lists.specs.Checked.{Placed, line}
use Rattle.text.specs.Reading.{has_label, goes_to}
use Rattle.rules.specs.Pair.{Rule, label_of}
use Rattle.rules.specs.Reading.{reader}
use Rattle.table.specs.Table.{rules_from}
use Rattle.table.proofs.Rules.{rules-step, rules-end}
use Rattle.table.specs.Rules.{value_in, pairs_of, Rules}
use Rattle.jumps.specs.Jumps.{labelled, NoneTo, Goes}

-- ---- one rule

module _ (g : List ℕ) (n : ℕ) (p : Rule) (ps : List (Placed Rule)) where
  goes-here : has_label g (label_of p) ≡ true → goes_to reader g (line n p ∷ ps) ≡ Some n
  unfolding goes_to
  goes-here h = rw h

  goes_on : has_label g (label_of p) ≡ false → goes_to reader g (line n p ∷ ps) ≡ goes_to reader g ps
  unfolding goes_to
  goes_on h = rw h

-- ---- from a rule of the table on

module _ (v r t g : List ℕ) (n : ℕ) where
  abbrev from : ℕ → List (Placed Rule)
  from i = rules_from v r t i (n - i)

  goes_by : (k i j : ℕ) → i + k ≡ j → Goes v r t g i n j → goes_to reader g (from i) ≡ Some (get_or t (j * 4) 0)
  goes_by zero i j e w =
      let q : i ≡ j = omega arith in
      rw q (ap (goes_to reader g) (rules-step v r t j n w.within) ∙ goes-here g (get_or t (j * 4) 0) (pairs_of v r t j) (rules_from v r t (j + 1) (n - (j + 1))) w.has)
  goes_by (suc k) i j e w =
      ap (goes_to reader g) (rules-step v r t i n (omega (arith, w.within)))
      ∙ goes_on g (get_or t (i * 4) 0) (pairs_of v r t i) (rules_from v r t (i + 1) (n - (i + 1))) (w.others i (omega arith) (omega arith))
      ∙ goes_by k (i + 1) j (omega arith) (record { from = omega arith; within = w.within; has = w.has; others = λ m a b. w.others m (omega arith) b })

  -- 19 is not given, and the line of the jump is that of the rule
  pub goes_to_lem : (i j : ℕ) → Goes v r t g i n j → goes_to reader g (from i) ≡ Some (get_or t (j * 4) 0)
  goes_to_lem i j w = goes_by (j - i) i j (omega (arith, w.from)) w

  nowhere_by : (k i : ℕ) → i + k ≡ n → NoneTo v r t g i n → goes_to reader g (from i) ≡ None
  unfolding goes_to
  nowhere_by zero i e w = ap (goes_to reader g) (rules-end v r t i n (omega arith))
  nowhere_by (suc k) i e w =
      ap (goes_to reader g) (rules-step v r t i n (omega arith))
      ∙ goes_on g (get_or t (i * 4) 0) (pairs_of v r t i) (rules_from v r t (i + 1) (n - (i + 1))) (w i (omega arith) (omega arith))
      ∙ nowhere_by k (i + 1) (omega arith) (λ m a b. w m (omega arith) b)

  pub goes_nowhere : (i : ℕ) → i ≤ n → NoneTo v r t g i n → goes_to reader g (from i) ≡ None
  goes_nowhere i h w = nowhere_by (n - i) i (omega arith) w

-- ---- a label by its row

module _ (v r t l : List ℕ) (m used count i : ℕ) (w : Rules v r t l m used count) (h : i < count) (g : List ℕ) where
  pub label-none : get_or l i 0 ≡ 0 → false ≡ labelled v r t g i
  label-none z =
      let q : value_in v r (get_or l i 0) ≡ None = rw (eq-eqb (get_or l i 0) 0 z) in
      let o : label_of (pairs_of v r t i) ≡ None = sym (w.rules i h).label ∙ q in
      rw o

-- ---- one rule more without it

pub none_more : (v r t g : List ℕ) (i j : ℕ) → NoneTo v r t g i j → labelled v r t g j ≡ false → NoneTo v r t g i (j + 1)
none_more v r t g i j w e k a b = go (ltb k j) refl
  where
    go : (c : Bool) → ltb k j ≡ c → labelled v r t g k ≡ false
    go true q = w k a (ltb-true k j q)
    go false q = let z : k ≡ j = omega (arith, ltb-false k j q) in rw z e
