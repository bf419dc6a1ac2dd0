-- A rule taken out of a table: what stays.
-- Assumes nothing.
use Prim.Native.Nat.{ℕ, zero, suc, ◌+◌, ◌-◌, ◌*◌, ◌%◌, ◌≤◌, ◌<◌}
use mathlib.Core.Path.{◌≡◌, refl, sym, ap, ap₂, ◌∙◌, subst}
use mathlib.Core.Bool.{Bool, true, false}
use mathlib.Core.List.{List, [], ◌∷◌}
use Rattle.std.specs.Prelude.{None}
use native.Mathlib.Omega.{arith}
use borrow.Author.Tests.{ltb-true, ltb-false, eqb-true, eqb-false}
use lib.Dec.{eqb, ltb}
use lib.ListN.{length, get_or, set, length-set}
use lib.Seq.{get_or-set_same, get_or-set_other}
use Rattle.lists.specs.Checked.{Placed, line}
use Rattle.lists.proofs.Moves.{ap_at}
use Rattle.rules.specs.Pair.{Rule, value_of}
use Rattle.table.specs.Table.{pairs_from, rule_at, rules_from}
use Rattle.table.specs.Rules.{value_in, pairs_of, RuleIn, Rules}
use Rattle.lost_jumps.specs.Lost.{RuleGone}

-- ---- five numbers

abbrev gone : List ℕ → ℕ → List ℕ
gone t at = set (set (set (set t at 0) (at + 1) 0) (at + 2) 0) (at + 3) 0

module _ (t : List ℕ) (at : ℕ) (h : at + 4 ≤ length t) where
  pub gone_other : (k : ℕ) → (k ≡ at → ⊥) → (k ≡ at + 1 → ⊥) → (k ≡ at + 2 → ⊥) → (k ≡ at + 3 → ⊥) → get_or (gone t at) k 0 ≡ get_or t k 0
  gone_other k a b c d =
      get_or-set_other (set (set (set t at 0) (at + 1) 0) (at + 2) 0) (at + 3) k 0 0 d
      ∙ get_or-set_other (set (set t at 0) (at + 1) 0) (at + 2) k 0 0 c
      ∙ get_or-set_other (set t at 0) (at + 1) k 0 0 b
      ∙ get_or-set_other t at k 0 0 a

  size₁ : length (set t at 0) ≡ length t
  size₁ = length-set t at 0

  size₂ : length (set (set t at 0) (at + 1) 0) ≡ length t
  size₂ = length-set (set t at 0) (at + 1) 0 ∙ size₁

  size₃ : length (set (set (set t at 0) (at + 1) 0) (at + 2) 0) ≡ length t
  size₃ = length-set (set (set t at 0) (at + 1) 0) (at + 2) 0 ∙ size₂

  pub gone-first : get_or (gone t at) at 0 ≡ 0
  gone-first =
      get_or-set_other (set (set (set t at 0) (at + 1) 0) (at + 2) 0) (at + 3) at 0 0 (λ e. omega arith)
      ∙ get_or-set_other (set (set t at 0) (at + 1) 0) (at + 2) at 0 0 (λ e. omega arith)
      ∙ get_or-set_other (set t at 0) (at + 1) at 0 0 (λ e. omega arith)
      ∙ get_or-set_same t at 0 0 (omega arith)

  pub gone_second : get_or (gone t at) (at + 1) 0 ≡ 0
  gone_second =
      get_or-set_other (set (set (set t at 0) (at + 1) 0) (at + 2) 0) (at + 3) (at + 1) 0 0 (λ e. omega arith)
      ∙ get_or-set_other (set (set t at 0) (at + 1) 0) (at + 2) (at + 1) 0 0 (λ e. omega arith)
      ∙ get_or-set_same (set t at 0) (at + 1) 0 0 (omega (arith, size₁))

  pub gone_third : get_or (gone t at) (at + 2) 0 ≡ 0
  gone_third =
      get_or-set_other (set (set (set t at 0) (at + 1) 0) (at + 2) 0) (at + 3) (at + 2) 0 0 (λ e. omega arith)
      ∙ get_or-set_same (set (set t at 0) (at + 1) 0) (at + 2) 0 0 (omega (arith, size₂))

  pub gone_fourth : get_or (gone t at) (at + 3) 0 ≡ 0
  gone_fourth = get_or-set_same (set (set (set t at 0) (at + 1) 0) (at + 2) 0) (at + 3) 0 0 (omega (arith, size₃))

pub rule-gone : (i : ℕ) (t l : List ℕ) → i * 4 + 4 ≤ length t → i < length l → RuleGone i t l (gone t (i * 4)) (set l i 0)
rule-gone i t l h k = record {
  first = gone-first t (i * 4) h;
  second = gone_second t (i * 4) h;
  third = gone_third t (i * 4) h;
  fourth = gone_fourth t (i * 4) h;
  before = λ j q. gone_other t (i * 4) h j (λ e. omega arith) (λ e. omega arith) (λ e. omega arith) (λ e. omega arith);
  behind = λ j q. gone_other t (i * 4) h j (λ e. omega arith) (λ e. omega arith) (λ e. omega arith) (λ e. omega arith);
  label = get_or-set_same l i 0 0 k;
  others = λ j q. get_or-set_other l i j 0 0 q;
}

-- ---- the rules

module _ (v r t t' : List ℕ) where
  -- the rules behind a place stay where their numbers do
  pub rules-behind : (i k : ℕ) → ((j : ℕ) → i * 4 ≤ j → get_or t' j 0 ≡ get_or t j 0) → rules_from v r t' i k ≡ rules_from v r t i k
  unfolding rules_from
  rules-behind i zero same = refl
  rules-behind i (suc k) same =
      ap₂ (λ (p : Placed Rule) (ps : List (Placed Rule)). p ∷ ps)
      (rw (same (i * 4) (omega arith), same (i * 4 + 1) (omega arith), same (i * 4 + 2) (omega arith)))
      (rules-behind (suc i) k (λ j h. same j (omega arith)))

module _ (v r t l t' l' : List ℕ) (i : ℕ) (g : RuleGone i t l t' l') where
  pub gone-is : rule_at v r t' i ≡ line 0 []
  unfolding pairs_from
  gone-is = rw (g.first, g.second, g.third)

  rule_in : (m : ℕ) → RuleIn v r t' l' m i
  unfolding pairs_from value_of
  rule_in m = record {
    ordered = omega (arith, g.second, g.third);
    to = omega (arith, g.third);
    label_in = omega (arith, g.label);
    label = rw (g.label, g.second, g.third);
    goto_in = omega (arith, g.fourth);
    goto = rw (g.fourth, g.second, g.third);
  }

  same_numbers : (k j : ℕ) → j < 4 → (k ≡ i → ⊥) → get_or t' (k * 4 + j) 0 ≡ get_or t (k * 4 + j) 0
  same_numbers k j h d = go (ltb k i) refl
    where
      go : (b : Bool) → ltb k i ≡ b → get_or t' (k * 4 + j) 0 ≡ get_or t (k * 4 + j) 0
      go true q = g.before (k * 4 + j) (omega (arith, ltb-true k i q))
      go false q = g.behind (k * 4 + j) (omega (arith, ltb-false k i q))

  rule_other : (m k : ℕ) → (k ≡ i → ⊥) → RuleIn v r t l m k → RuleIn v r t' l' m k
  rule_other m k d x = record {
    ordered = omega (arith, x.ordered, same_numbers k 1 (omega arith) d, same_numbers k 2 (omega arith) d);
    to = omega (arith, x.to, same_numbers k 2 (omega arith) d);
    label_in = omega (arith, x.label_in, g.others k d);
    label = rw (g.others k d, same_numbers k 1 (omega arith) d, same_numbers k 2 (omega arith) d) x.label;
    goto_in = omega (arith, x.goto_in, same_numbers k 3 (omega arith) d);
    goto = rw (same_numbers k 3 (omega arith) d, same_numbers k 1 (omega arith) d, same_numbers k 2 (omega arith) d) x.goto;
  }

  pub table-gone : (m used n : ℕ) → Rules v r t l m used n → Rules v r t' l' m used n
  table-gone m used n x = record { rows = x.rows; rules = λ k h. go k h (eqb k i) refl }
    where
      go : (k : ℕ) → k < n → (b : Bool) → eqb k i ≡ b → RuleIn v r t' l' m k
      go k h true q = let e : k ≡ i = eqb-true k i q in rw e (rule_in m)
      go k h false q = rule_other m k (eqb-false k i q) (x.rules k h)
