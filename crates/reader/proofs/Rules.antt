-- The rules of a table: one more, and those that stay.
-- Assumes nothing.
use Prim.Native.Nat.{ℕ, zero, suc, ◌+◌, ◌-◌, ◌*◌, ◌≤◌, ◌<◌}
use mathlib.Core.Path.{◌≡◌, refl, sym, ap, ap₂, ◌∙◌}
use mathlib.Core.Bool.{Bool, true, false}
use mathlib.Core.List.{List, [], ◌∷◌, ◌++◌}
use Rattle.std.specs.Prelude.{None, Some}
use native.Mathlib.Numerals.{add-one}
use native.Mathlib.Omega.{arith}
use borrow.Author.Tests.{eqb-false, ltb-true, ltb-false}
use lib.Dec.{eqb, ltb}
use lib.ListN.{length, get_or, set, length-set}
use lib.Seq.{get_or-set_same, get_or-set_other}
use Rattle.lists.specs.Lists.{pick}
use Rattle.lists.specs.Checked.{Placed, line}
use Rattle.lists.proofs.Moves.{ap_at}
use Rattle.rules.specs.Pair.{Pair, Rule, label_of, goto_of}
use Rattle.table.specs.Table.{pair_at, pairs_from, rule_at, rules_from, Rows}
use Rattle.table.specs.Puts.{Four, Kept}
use Rattle.table.proofs.Pairs.{row_kept, pairs-kept}
use Rattle.rule_lines.specs.declared.Fill.{Fill}
use Rattle.table.specs.Rules.{value_in, pairs_of, RuleIn}
use Rattle.rule_lines.specs.Filling.{held, Held}
use Rattle.reader.specs.Read.{RulePut}

-- ---- what stays

module _ (v r v' r' : List ℕ) (n used : ℕ) (rs : Rows v r n used) (kept : Kept used n v r v' r') where
  mark_kept : (m : ℕ) → m ≤ n → value_in v' r' m ≡ value_in v r m
  mark_kept m h = go (eqb m 0) refl
    where
      go : (b : Bool) → eqb m 0 ≡ b → pick b None (Some (pair_at v' r' (m - 1)).value) ≡ pick b None (Some (pair_at v r (m - 1)).value)
      go true e = refl
      go false e =
          let d = eqb-false m 0 e in
          ap (λ (q : Pair). Some q.value) (row_kept v r v' r' n used rs kept (m - 1) (omega arith))

  module _ (t l t' l' : List ℕ) (count : ℕ) (same : (k : ℕ) → k < count * 4 → get_or t' k 0 ≡ get_or t k 0) (alike : (k : ℕ) → k < count → get_or l' k 0 ≡ get_or l k 0)
      (rules : (i : ℕ) → i < count → RuleIn v r t l n i) where
    pairs-same : (i : ℕ) → i < count → pairs_of v' r' t' i ≡ pairs_of v r t i
    pairs-same i h =
        rw (same (i * 4 + 1) (omega arith), same (i * 4 + 2) (omega arith))
        (pairs-kept v r v' r' n used rs kept (get_or t (i * 4 + 1) 0) (get_or t (i * 4 + 2) 0) (rules i h).to)

    rule-same : (i : ℕ) → i < count → rule_at v' r' t' i ≡ rule_at v r t i
    rule-same i h = ap₂ (λ (k : ℕ) (p : Rule). line k p) (same (i * 4) (omega arith)) (pairs-same i h)

    kept_from : (i k : ℕ) → i + k ≤ count → rules_from v' r' t' i k ≡ rules_from v r t i k
    unfolding rules_from
    kept_from i zero h = refl
    kept_from i (suc k) h = ap₂ (λ (x : Placed Rule) (y : List (Placed Rule)). x ∷ y) (rule-same i (omega arith)) (kept_from (suc i) k (omega arith))

    pub rules-kept : rules_from v' r' t' 0 count ≡ rules_from v r t 0 count
    rules-kept = kept_from 0 count (omega arith)

    pub rule_in_kept : (n' : ℕ) → n ≤ n' → (i : ℕ) → i < count → RuleIn v' r' t' l' n' i
    rule_in_kept n' m i h =
        let x = rules i h in
        record {
          ordered = omega (arith, x.ordered, same (i * 4 + 1) (omega arith), same (i * 4 + 2) (omega arith));
          to = omega (arith, x.to, same (i * 4 + 2) (omega arith));
          label_in = omega (arith, x.label_in, alike i h);
          label = rw (alike i h, pairs-same i h) (mark_kept (get_or l i 0) x.label_in ∙ x.label);
          goto_in = omega (arith, x.goto_in, same (i * 4 + 3) (omega arith));
          goto = rw (same (i * 4 + 3) (omega arith), pairs-same i h) (mark_kept (get_or t (i * 4 + 3) 0) x.goto_in ∙ x.goto);
        }

-- ---- one more

module _ (v r t l t' l' : List ℕ) (i number from : ℕ) (s : Fill) (put : RulePut i number from s t l t' l') (h : Held v r from s) where
  pub rule_new : rule_at v r t' i ≡ line number (held v r from s)
  rule_new = rw (put.four.first, put.four.second, put.four.third)

  pub rule_in_new : from ≤ s.rows → RuleIn v r t' l' s.rows i
  rule_in_new o = record {
    ordered = omega (arith, put.four.second, put.four.third, o);
    to = omega (arith, put.four.third);
    label_in = omega (arith, put.label, h.label_in);
    label = rw (put.label, put.four.second, put.four.third) h.label;
    goto_in = omega (arith, put.four.fourth, h.goto_in);
    goto = rw (put.four.fourth, put.four.second, put.four.third) h.goto;
  }
