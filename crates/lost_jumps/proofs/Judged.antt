-- A rule judged beside those behind it, and all rules from a place on.
-- Assumes nothing.
use Prim.Native.Nat.{ℕ, zero, suc, ◌+◌, ◌-◌, ◌*◌, ◌≤◌, ◌<◌}
use mathlib.Core.Path.{◌≡◌, refl, sym, ap, ap₂, ◌∙◌}
use mathlib.Core.Bool.{Bool, true, false}
use mathlib.Core.List.{List, [], ◌∷◌}
use native.Mathlib.Omega.{arith}
use lib.ListN.{get_or}
use Rattle.lists.specs.Lists.{pick}
use Rattle.lists.specs.Checked.{Placed, line}
use Rattle.lists.proofs.Moves.{ap_at}
use Rattle.rules.specs.Pair.{Rule, goto_of}
use Rattle.rules.specs.Reading.{reader}
use Rattle.striking.proofs.Rules.{is_kept}
use Rattle.table.specs.Table.{rule_at, rules_from}
use Rattle.table.specs.Rules.{pairs_of, Rules}
use Rattle.table.proofs.Rules.{rules-step, rules-end}
use Rattle.jumps.specs.Labels.{Before}
use Rattle.lost_jumps.specs.Lost.{judged_rule, emptied, RuleGone, Judges}
use Rattle.lost_jumps.proofs.Gone.{rules-behind, gone-is, table-gone}

-- ---- one rule

module _ (v r t l : List ℕ) (i m used count : ℕ) (x : Rules v r t l m used count) (h : i < count) where
  abbrev answer : Bool
  answer = is_kept reader (goto_of (pairs_of v r t i)) (rules_from v r t (i + 1) (count - (i + 1)))

  pub rule-kept : answer ≡ true → Judges v r t t l i m used count
  rule-kept e = record { table = x; rules = rules-step v r t i count h ∙ rw e; before = λ j q. refl }

  pub rule_lost : (t' l' : List ℕ) → RuleGone i t l t' l' → answer ≡ false → Judges v r t t' l' i m used count
  rule_lost t' l' g e = record {
    table = table-gone v r t l t' l' i g m used count x;
    rules =
        rules-step v r t' i count h
        ∙ ap₂ (λ (p : Placed Rule) (ps : List (Placed Rule)). p ∷ ps) (gone-is v r t l t' l' i g) (rules-behind v r t t' (i + 1) (count - (i + 1)) (λ j a. g.behind j (omega arith)))
        ∙ rw e;
    before = g.before;
  }

-- ---- all rules from a place on

abbrev pub Emptied : List ℕ → List ℕ → List ℕ → List ℕ → ℕ → ℕ → Type 0
Emptied v r t₀ t i count = rules_from v r t i (count - i) ≡ emptied (rules_from v r t₀ i (count - i))

pub emptied-end : (v r t₀ t : List ℕ) (count : ℕ) → Emptied v r t₀ t count count
unfolding emptied
emptied-end v r t₀ t count = rules-end v r t count count (omega arith) ∙ sym (ap emptied (rules-end v r t₀ count count (omega arith)))

same-rule : (v r t₀ t₁ : List ℕ) (i : ℕ) → Before ((i + 1) * 4) t₀ t₁ → rule_at v r t₁ i ≡ rule_at v r t₀ i
same-rule v r t₀ t₁ i b = rw (b (i * 4) (omega arith), b (i * 4 + 1) (omega arith), b (i * 4 + 2) (omega arith))

pub emptied-step : (v r t₀ t₁ t l : List ℕ) (i m used count : ℕ) → i < count → Before ((i + 1) * 4) t₀ t₁ → Emptied v r t₀ t₁ (i + 1) count → Judges v r t₁ t l i m used count → Emptied v r t₀ t i count
unfolding emptied
emptied-step v r t₀ t₁ t l i m used count h b e j =
    j.rules
    ∙ ap₂ judged_rule (same-rule v r t₀ t₁ i b) e
    ∙ sym (ap emptied (rules-step v r t₀ i count h))

-- ---- the loop

-- the rules from the i-th on are judged
pub record Turn (v r t₀ l₀ t l : List ℕ) (i count : ℕ) : Type 0 where
  pub within : i ≤ count
  pub table : (m used : ℕ) → Rules v r t₀ l₀ m used count → Rules v r t l m used count
  pub emptied : Emptied v r t₀ t i count
  pub before : Before (i * 4) t₀ t

pub turn-start : (v r t l : List ℕ) (count : ℕ) → Turn v r t l t l count count
turn-start v r t l count = record { within = omega arith; table = λ m used y. y; emptied = emptied-end v r t t count; before = λ k h. refl }

pub turn_on : (v r t₀ l₀ t l : List ℕ) (i count : ℕ) → Turn v r t₀ l₀ t l i count → 0 < i → (t' l' : List ℕ) (m used : ℕ) → Rules v r t₀ l₀ m used count
    → ((m used : ℕ) → Rules v r t l m used count → Judges v r t t' l' (i - 1) m used count) → Turn v r t₀ l₀ t' l' (i - 1) count
turn_on v r t₀ l₀ t l i count w h t' l' m used x judges =
    let one : i - 1 + 1 ≡ i = omega arith in
    let j = judges m used (w.table m used x) in
    record {
      within = omega (arith, w.within);
      table = λ m used y. (judges m used (w.table m used y)).table;
      emptied = emptied-step v r t₀ t t' l' (i - 1) m used count (omega (arith, w.within)) (rw one w.before) (rw one w.emptied) j;
      before = λ k q. j.before k q ∙ w.before k (omega arith);
    }

pub emptied-all : (v r t₀ l₀ t l : List ℕ) (i count : ℕ) → Turn v r t₀ l₀ t l i count → i ≤ 0 → rules_from v r t 0 count ≡ emptied (rules_from v r t₀ 0 count)
emptied-all v r t₀ l₀ t l i count w h =
    let z : i ≡ 0 = omega arith in
    let y : count - 0 ≡ count = omega arith in
    let e : Emptied v r t₀ t 0 count = rw z at w.emptied in
    rw y at e
