-- What a table denotes, and that it may run, as it was.
-- Assumes nothing.
use Prim.Native.Nat.{ℕ, zero, suc, ◌+◌, ◌-◌, ◌*◌, ◌≤◌, ◌<◌}
use mathlib.Core.Path.{◌≡◌, refl, sym, ap, ap₂, ◌∙◌, subst}
use mathlib.Core.Bool.{true, false}
use mathlib.Core.List.{List, ◌∷◌}
use Rattle.std.specs.Prelude.{Option, None, Some}
use native.Mathlib.Omega.{arith}
use lib.ListN.{length, get_or}
use Rattle.lists.specs.Checked.{Placed}
use Rattle.text.specs.Reading.{has_label}
use Rattle.rules.specs.Pair.{Rule, label_of, goto_of}
use Rattle.table.specs.Table.{pairs_from, rule_with, rules_from}
use Rattle.table.specs.Rules.{pairs_of}
use Rattle.jumps.specs.Jumps.{labelled, Goes, Resolved}
use Rattle.assignment.specs.Assignment.{RuleRows}
use Rattle.runner.specs.Runs.{Runnable}
use Rattle.action_rows.specs.Actions.{ActionsPut}

module _ (v r t t' : List ℕ) (n : ℕ) (w : ActionsPut r t t' n) where
  pairs-same : (i : ℕ) → pairs_of v r t i ≡ pairs_of v r t' i
  pairs-same i = rw (w.from i, w.to i) refl

  pub rules-same : (k i : ℕ) → rules_from v r t i k ≡ rules_from v r t' i k
  unfolding rules_from
  rules-same zero i = refl
  rules-same (suc k) i =
      ap₂ {A = Placed Rule} {B = List (Placed Rule)} (λ p ps. p ∷ ps)
      (rw (w.line i, w.from i, w.to i) refl)
      (rules-same k (suc i))

  label_same : (g : List ℕ) (i : ℕ) → labelled v r t g i ≡ labelled v r t' g i
  label_same g i = ap (λ (p : Rule). has_label g (label_of p)) (pairs-same i)

  goes_same : (g : List ℕ) (i j : ℕ) → Goes v r t g i n j → Goes v r t' g i n j
  goes_same g i j h = record {
    from = h.from;
    within = h.within;
    has = sym (label_same g j) ∙ h.has;
    others = λ k a b. sym (label_same g k) ∙ h.others k a b;
  }

  jump_same : (i k : ℕ) (o : Option (List ℕ)) → Resolved v r t i n o k → Resolved v r t' i n o k
  jump_same i k None h = h
  jump_same i k (Some g) (p, h) = (p, goes_same g (i + 1) (k - 1) h)

  pub runnable_same : (js : List ℕ) → Runnable v r t js n → Runnable v r t' js n
  runnable_same js h = record {
    few = h.few;
    rules_room = omega (arith, h.rules_room, w.size);
    jumps_room = h.jumps_room;
    rules = λ i l. rw (w.from i, w.to i) (h.rules i l);
    jumps = λ k l. subst (λ (p : Rule). Resolved v r t' k n (goto_of p) (get_or js k 0)) (pairs-same k) (jump_same k (get_or js k 0) (goto_of (pairs_of v r t k)) (h.jumps k l));
  }
