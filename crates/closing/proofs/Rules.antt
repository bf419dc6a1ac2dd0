-- Document 02, Item 13: from a record in which a key is closed, the rules without the assignments to it run as all rules do.
-- Assumes nothing.
use Prim.Native.Nat.{ℕ, ◌+◌}
use mathlib.Core.Path.{◌≡◌, refl, sym, ap, ap₂, ◌∙◌, subst}
use mathlib.Core.Bool.{Bool, true, false}
use mathlib.Core.List.{List, [], ◌∷◌}
use Rattle.std.specs.Prelude.{Option, None, Some}
use Rattle.lists.specs.Lists.{pick}
use Rattle.lists.specs.Checked.{Checked, refused, ok, Holds, Placed, line}
use Rattle.lists.specs.Refusal.{Refusal}
use Rattle.lists.proofs.Checked.{holds-map}
use Rattle.rules.specs.Pair.{Rule, value_of, label_of, goto_of}
use Rattle.device.specs.Device.{Device}
use Rattle.outcome.specs.State.{State}
use Rattle.text.specs.Engine.{Stepped, went}
use Rattle.text.specs.Reading.{has_label, goes_to}
use Rattle.text.specs.Running.{Mode, next, seek, begins, after, Halt, Ran, more, started, visit, run_from}
use Rattle.text.proofs.Settle.{Aimed, Settled}
use native.Mathlib.Nat.{zero-add}
use Rattle.engine.specs.Match.{all_hold, has_parents, place_of, matched, tried}
use Rattle.engine.specs.Assign.{assign_all}
use Rattle.sheet.specs.Sheet.{Sheet}
use Rattle.engine.specs.Programs.{ask_all, results_hold}
use Rattle.engine.specs.Step.{finished, step_at, step}
use Rattle.engine.specs.Operations.{engine}
use Rattle.rules.specs.Reading.{reader}
use Rattle.closing.specs.Closing.{ClosingKey, is_closed, Same, drop_rule, unless_empty, drop_rules}
use Rattle.closing.proofs.Stays.{same_refl, same_trans, same-closed, StepStays, step_stays}
use Rattle.closing.proofs.Drops.{drop-label, drop_goto, drop-tried, drop-step}

-- ---- what stands under a closed key

module _ (a : Sheet) (k : ClosingKey) (d : Device) where
  abbrev HaltStays : State → Halt State → Type 0
  HaltStays s h = Same k s h.state

  more_stays : (s : State) (v w : ℕ) (c : Ran State) → Holds (HaltStays s) c → Holds (HaltStays s) (more v w c)
  more_stays s v w (refused f) h = tt
  more_stays s v w (ok h) i = i

  -- rules leave it as it was
  pub run_stays : (ps : List (Placed Rule)) (m : Mode) (s : State) → is_closed k s ≡ true → Holds (HaltStays s) (run_from (engine a) d m s ps)
  unfolding run_from
  run_stays [] m s h = same_refl k s
  run_stays (line n r ∷ ps) m s h = at (begins m (label_of r)) (λ m' s' h'. run_stays ps m' s' h')
    where
      begun : (c : Checked Refusal (Stepped State)) → Holds (StepStays k d s) c
          → ((m : Mode) (s : State) → is_closed k s ≡ true → Holds (HaltStays s) (run_from (engine a) d m s ps))
          → Holds (HaltStays s) (started (engine a) c n (tried d r s) (goto_of r) (λ m' s'. run_from (engine a) d m' s' ps))
      begun (refused f) i ih = tt
      begun (ok (went s' held)) i ih =
          more_stays s 1 (tried d r s) (run_from (engine a) d (after held (goto_of r)) s' ps)
          (holds-map (HaltStays s') (HaltStays s) (run_from (engine a) d (after held (goto_of r)) s' ps) (ih (after held (goto_of r)) s' (same-closed k s s' i h))
          (λ h' j. same_trans k s s' h'.state i j))

      at : (t : Bool) → ((m : Mode) (s : State) → is_closed k s ≡ true → Holds (HaltStays s) (run_from (engine a) d m s ps))
          → Holds (HaltStays s) (visit (engine a) t d n r m s (λ m' s'. run_from (engine a) d m' s' ps))
      at false ih = ih m s h
      at true ih = begun (step a d r s) (step_stays k d a r s h) ih

-- ---- the same run but for the visited count

-- a state, and the devices tried on the way to it
abbrev pub Reached : Type 0
Reached = State × ℕ

abbrev pub unvisited : Ran State → Checked (Placed Refusal) Reached
unvisited (refused f) = refused f
unvisited (ok h) = ok (h.state, h.tried)

abbrev farther : ℕ → Checked (Placed Refusal) Reached → Checked (Placed Refusal) Reached
farther w (refused f) = refused f
farther w (ok (s, t)) = ok (s, w + t)

unvisited-more : (v w : ℕ) (c : Ran State) → unvisited (more v w c) ≡ farther w (unvisited c)
unvisited-more v w (refused f) = refl
unvisited-more v w (ok h) = refl

farther-none : (c : Checked (Placed Refusal) Reached) → farther 0 c ≡ c
farther-none (refused f) = refl
farther-none (ok (s, t)) = ap (λ (n : ℕ). ok (s, n)) (zero-add t)

-- a rule with no pairs does nothing
nothing-done : (a : Sheet) (d : Device) (s : State) → step a d [] s ≡ ok (went s true)
unfolding step step_at matched all_hold place_of has_parents ask_all finished results_hold assign_all
nothing-done a d s = refl

nothing-tried : (d : Device) (s : State) → tried d [] s ≡ 0
unfolding tried all_hold has_parents
nothing-tried d s = refl

module _ (a : Sheet) (k : ClosingKey) (d : Device) where
  -- later rules that do the same from each state in which the key is closed
  abbrev Alike : (Mode → State → Ran State) → (Mode → State → Ran State) → Type 0
  Alike f g = (m : Mode) (s : State) → is_closed k s ≡ true → unvisited (f m s) ≡ unvisited (g m s)

  module _ (n : ℕ) (r : Rule) (f g : Mode → State → Ran State) (same : Alike f g) where
    started-same : (s : State) → is_closed k s ≡ true → (c : Checked Refusal (Stepped State)) → Holds (StepStays k d s) c → (w : ℕ) (o : Option (List ℕ))
        → unvisited (started (engine a) c n w o f) ≡ unvisited (started (engine a) c n w o g)
    started-same s h (refused x) i w o = refl
    started-same s h (ok (went s' held)) i w o =
        unvisited-more 1 w (f (after held o) s') ∙ ap (farther w) (same (after held o) s' (same-closed k s s' i h)) ∙ sym (unvisited-more 1 w (g (after held o) s'))

    -- a rule of which something is left
    visit-same : (t : Bool) (m : Mode) (s : State) → is_closed k s ≡ true → unvisited (visit (engine a) t d n (drop_rule k r) m s f) ≡ unvisited (visit (engine a) t d n r m s g)
    visit-same false m s h = same m s h
    visit-same true m s h =
        ap₂ (λ (c : Checked Refusal (Stepped State)) (o : Option (List ℕ)). unvisited (started (engine a) c n (tried d (drop_rule k r) s) o f)) (drop-step k d a r s h) (drop_goto k r)
        ∙ ap (λ (w : ℕ). unvisited (started (engine a) (step a d r s) n w (goto_of r) f)) (drop-tried k d r s)
        ∙ started-same s h (step a d r s) (step_stays k d a r s h) (tried d r s) (goto_of r)

    -- one of which nothing is left
    visit-none : (m : Mode) (s : State) → is_closed k s ≡ true → drop_rule k r ≡ [] → unvisited (f m s) ≡ unvisited (visit (engine a) (begins m (label_of r)) d n r m s g)
    unfolding value_of
    visit-none next s h e =
        let w : step a d r s ≡ ok (went s true) = sym (drop-step k d a r s h) ∙ ap (λ (x : Rule). step a d x s) e ∙ nothing-done a d s in
        let z : tried d r s ≡ 0 = sym (drop-tried k d r s) ∙ ap (λ (x : Rule). tried d x s) e ∙ nothing-tried d s in
        let o : goto_of r ≡ None = sym (drop_goto k r) ∙ ap goto_of e in
        same next s h
        ∙ sym (farther-none (unvisited (g next s)))
        ∙ sym (unvisited-more 1 0 (g next s))
        ∙ ap (λ (t : ℕ). unvisited (started (engine a) (ok (went s true)) n t None g)) (sym z)
        ∙ sym (ap₂ (λ (c : Checked Refusal (Stepped State)) (o : Option (List ℕ)). unvisited (started (engine a) c n (tried d r s) o g)) w o)
    visit-none (seek l) s h e =
        let o : label_of r ≡ None = sym (drop-label k r) ∙ ap label_of e in
        same (seek l) s h ∙ sym (ap (λ (o : Option (List ℕ)). unvisited (visit (engine a) (has_label l o) d n r (seek l) s g)) o)

  pub drop-run : (ps : List (Placed Rule)) (m : Mode) (s : State) → is_closed k s ≡ true
      → unvisited (run_from (engine a) d m s (drop_rules k ps)) ≡ unvisited (run_from (engine a) d m s ps)
  unfolding run_from drop_rules
  drop-run [] m s h = refl
  drop-run (line n r ∷ ps) m s h = at (drop_rule k r) refl (λ m' s' h'. drop-run ps m' s' h')
    where
      at : (r' : Rule) → drop_rule k r ≡ r'
          → ((m : Mode) (s : State) → is_closed k s ≡ true → unvisited (run_from (engine a) d m s (drop_rules k ps)) ≡ unvisited (run_from (engine a) d m s ps))
          → unvisited (run_from (engine a) d m s (unless_empty r' (drop_rules k ps) (λ x. line n x))) ≡ unvisited (visit (engine a) (begins m (label_of r)) d n r m s (λ m' s'. run_from (engine a) d m' s' ps))
      at [] e ih = visit-none n r (λ m s. run_from (engine a) d m s (drop_rules k ps)) (λ m s. run_from (engine a) d m s ps) ih m s h e
      at (p ∷ q) e ih =
          ap (λ (x : Rule). unvisited (visit (engine a) (begins m (label_of x)) d n x m s (λ m' s'. run_from (engine a) d m' s' (drop_rules k ps)))) (sym e)
          ∙ ap (λ (o : Option (List ℕ)). unvisited (visit (engine a) (begins m o) d n (drop_rule k r) m s (λ m' s'. run_from (engine a) d m' s' (drop_rules k ps)))) (drop-label k r)
          ∙ visit-same n r (λ m s. run_from (engine a) d m s (drop_rules k ps)) (λ m s. run_from (engine a) d m s ps) ih (begins m (label_of r)) m s h

-- ---- jumps find their labels

module _ (a : Sheet) (k : ClosingKey) where
  pub drop-goes : (l : List ℕ) (ps : List (Placed Rule)) → goes_to reader l (drop_rules k ps) ≡ goes_to reader l ps
  unfolding goes_to drop_rules value_of
  drop-goes l [] = refl
  drop-goes l (line n r ∷ ps) = at (drop_rule k r) refl (drop-goes l ps)
    where
      at : (r' : Rule) → drop_rule k r ≡ r' → goes_to reader l (drop_rules k ps) ≡ goes_to reader l ps
          → goes_to reader l (unless_empty r' (drop_rules k ps) (λ x. line n x)) ≡ pick (has_label l (label_of r)) (Some n) (goes_to reader l ps)
      at [] e ih =
          let o : label_of r ≡ None = sym (drop-label k r) ∙ ap label_of e in
          ih ∙ sym (ap (λ (o : Option (List ℕ)). pick (has_label l o) (Some n) (goes_to reader l ps)) o)
      at (p ∷ q) e ih =
          ap₂ (λ (o : Option (List ℕ)) (x : Option ℕ). pick (has_label l o) (Some n) x) (ap label_of (sym e) ∙ drop-label k r) ih

  aimed_same : (o : Option (List ℕ)) (ps : List (Placed Rule)) → Aimed (engine a) o ps → Aimed (engine a) o (drop_rules k ps)
  aimed_same None ps a = tt
  aimed_same (Some l) ps (n, e) = (n, drop-goes l ps ∙ e)

  pub drop_settled : (ps : List (Placed Rule)) → Settled (engine a) ps → Settled (engine a) (drop_rules k ps)
  unfolding drop_rules
  drop_settled [] h = tt
  drop_settled (line n r ∷ ps) (i, h) = at (drop_rule k r) refl (drop_settled ps h)
    where
      at : (r' : Rule) → drop_rule k r ≡ r' → Settled (engine a) (drop_rules k ps) → Settled (engine a) (unless_empty r' (drop_rules k ps) (λ x. line n x))
      at [] e ih = ih
      at (p ∷ q) e ih = (subst (λ (o : Option (List ℕ)). Aimed (engine a) o (drop_rules k ps)) (sym (drop_goto k r) ∙ ap goto_of e) (aimed_same (goto_of r) ps i), ih)
