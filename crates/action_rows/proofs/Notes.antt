-- One turn of each loop.
-- Assumes nothing.
use Prim.Native.Nat.{ℕ, zero, suc, ◌+◌, ◌-◌, ◌*◌, ◌≤◌, ◌<◌}
use mathlib.Core.Path.{◌≡◌, refl, sym, ap, ◌∙◌, subst}
use mathlib.Core.Bool.{Bool, true, false}
use mathlib.Core.List.{List}
use native.Mathlib.Omega.{arith}
use borrow.Author.Tests.{lt-ltb, le-ltb, eqb-true, eqb-false}
use lib.Dec.{ltb, eqb}
use lib.ListN.{length, get_or, set, length-set}
use lib.Seq.{get_or-set_same, get_or-set_other}
use Rattle.action_rows.specs.Actions.{action_in, Within, ActionsPut}

-- ---- the rows of a rule

module _ (rows : List ℕ) (i to : ℕ) (h : i < to) where
  step : action_in rows i (to - i) ≡ action_in rows i (suc (to - (i + 1)))
  step = ap (λ (k : ℕ). action_in rows i k) (omega arith)

  pub action_here : get_or rows (i * 4) 0 < 16 → action_in rows i (to - i) ≡ i + 1
  unfolding action_in
  action_here l = step ∙ rw (lt-ltb (get_or rows (i * 4) 0) 16 l) refl

  pub action_later : 16 ≤ get_or rows (i * 4) 0 → action_in rows i (to - i) ≡ action_in rows (i + 1) (to - (i + 1))
  unfolding action_in
  action_later l = step ∙ rw (le-ltb (get_or rows (i * 4) 0) 16 l) (ap (λ (j : ℕ). action_in rows j (to - (i + 1))) (omega arith))

pub action_none : (rows : List ℕ) (i to : ℕ) → to ≤ i → action_in rows i (to - i) ≡ 0
unfolding action_in
action_none rows i to h = let e : to - i ≡ 0 = omega arith in rw e

-- ---- the rules

pub noted-start : (rows rules : List ℕ) → ActionsPut rows rules rules 0
noted-start rows rules = record { size = refl; line = λ i. refl; from = λ i. refl; to = λ i. refl; action = λ i h. absurd (omega arith) }

module _ (rows rules rules' : List ℕ) (n : ℕ) (w : ActionsPut rows rules rules' n) (room : n * 4 + 3 < length rules) (x : ℕ)
    (is : x ≡ action_in rows (get_or rules (n * 4 + 1) 0) (get_or rules (n * 4 + 2) 0 - get_or rules (n * 4 + 1) 0)) where
  other : (k : ℕ) → (k ≡ n * 4 + 3 → ⊥) → get_or (set rules' (n * 4 + 3) x) k 0 ≡ get_or rules' k 0
  other k differs = get_or-set_other rules' (n * 4 + 3) k x 0 differs

  pub noted-next : ActionsPut rows rules (set rules' (n * 4 + 3) x) (n + 1)
  noted-next = record {
    size = length-set rules' (n * 4 + 3) x ∙ w.size;
    line = λ i. other (i * 4) (λ e. omega arith) ∙ w.line i;
    from = λ i. other (i * 4 + 1) (λ e. omega arith) ∙ w.from i;
    to = λ i. other (i * 4 + 2) (λ e. omega arith) ∙ w.to i;
    action = λ i h. at i h (eqb i n) refl;
  }
    where
      at : (i : ℕ) → i < n + 1 → (q : Bool) → eqb i n ≡ q → get_or (set rules' (n * 4 + 3) x) (i * 4 + 3) 0 ≡ action_in rows (get_or rules (i * 4 + 1) 0) (get_or rules (i * 4 + 2) 0 - get_or rules (i * 4 + 1) 0)
      at i h true e = let y : i ≡ n = eqb-true i n e in rw y (get_or-set_same rules' (n * 4 + 3) x 0 (omega (arith, w.size)) ∙ is)
      at i h false e = let differs = eqb-false i n e in other (i * 4 + 3) (λ k. differs (omega arith)) ∙ w.action i (omega (arith, differs))
