-- The rules that are kept, from the last backwards, as code goes through the rules that it noted.
-- Assumes nothing.
use Prim.Native.Nat.{ℕ, zero, suc}
use mathlib.Core.Path.{◌≡◌, refl, ap}
use mathlib.Core.Bool.{Bool, true, false}
use mathlib.Core.List.{List, [], ◌∷◌}
use Rattle.std.specs.Prelude.{Option, None, Some}
use lib.ListN.{take}
use Rattle.lists.specs.Lists.{pick, is_some}
use Rattle.lists.specs.Checked.{Placed, line}
use Rattle.text.specs.Engine.{Reader, LineRead, skip, fault, rule}
use Rattle.text.specs.Reading.{goes_to}
use Rattle.text.specs.Rules.{rules_in}
use Rattle.striking.specs.Striking.{past_most, kept_by, answered_by, unanswered}

-- of the rules past the most none is left
pub past_rules : {Rule : Type 0} (k : ℕ) (xs : List (Placed (LineRead Rule))) → rules_in (past_most k xs) ≡ take k (rules_in xs)
unfolding past_most rules_in
past_rules zero [] = refl
past_rules (suc k) [] = refl
past_rules zero (line n skip ∷ xs) = past_rules zero xs
past_rules (suc k) (line n skip ∷ xs) = past_rules (suc k) xs
past_rules zero (line n (fault f) ∷ xs) = past_rules zero xs
past_rules (suc k) (line n (fault f) ∷ xs) = past_rules (suc k) xs
past_rules zero (line n (rule r) ∷ xs) = past_rules zero xs
past_rules (suc k) (line n (rule r) ∷ xs) = ap (λ (ps : List (Placed _)). line n r ∷ ps) (past_rules k xs)

module _ (R : Reader) where
  open R use {Rule, goto}

  -- a rule has no jump, or one that a later rule answers
  abbrev pub is_kept : Option (List ℕ) → List (Placed Rule) → Bool
  is_kept None later = true
  is_kept (Some g) later = is_some (goes_to R g later)

  unfoldable pub kept_rules : List (Placed Rule) → List (Placed Rule)
  kept_rules [] = []
  kept_rules (line n r ∷ ps) =
      let later = kept_rules ps in
      pick (is_kept (goto r) later) (line n r ∷ later) later

  pub rules-kept : (xs : List (Placed (LineRead Rule))) → rules_in (unanswered R xs) ≡ kept_rules (rules_in xs)
  unfolding unanswered rules_in kept_rules
  rules-kept [] = refl
  rules-kept (line n skip ∷ xs) = rules-kept xs
  rules-kept (line n (fault f) ∷ xs) = rules-kept xs
  rules-kept (line n (rule r) ∷ xs) = rw (← (rules-kept xs)) (at (goto r))
    where
      one : (t : Bool) → rules_in (line n (kept_by R t r) ∷ unanswered R xs) ≡ pick t (line n r ∷ rules_in (unanswered R xs)) (rules_in (unanswered R xs))
      one true = refl
      one false = refl

      at : (g : Option (List ℕ)) → rules_in (line n (answered_by R g r (rules_in (unanswered R xs))) ∷ unanswered R xs) ≡ pick (is_kept g (rules_in (unanswered R xs))) (line n r ∷ rules_in (unanswered R xs)) (rules_in (unanswered R xs))
      at None = refl
      at (Some g) = one (is_some (goes_to R g (rules_in (unanswered R xs))))
