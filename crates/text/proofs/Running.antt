-- Running the rules of one list and then those of another; rules that stand further down.
-- Assumes nothing.
use Prim.Native.Nat.{ℕ, ◌+◌}
use mathlib.Core.Path.{◌≡◌, refl, sym, ◌∙◌, ap}
use mathlib.Core.Bool.{Bool, true, false}
use mathlib.Core.List.{List, [], ◌∷◌, ◌++◌}
use Rattle.std.specs.Prelude.{Option}
use native.Mathlib.Nat.{zero-add, add_assoc}
use Rattle.lists.specs.Checked.{Checked, refused, ok, ◌>>=◌, Placed, line, moved}
use Rattle.lists.specs.Refusal.{Refusal}
use Rattle.text.specs.Engine.{Engine, Stepped, went}
use Rattle.text.specs.Running.{Mode, Halt, Ran, more, begins, after, started, visit, run_from}
use Rattle.text.proofs.Lines.{shift}

module _ {State : Type 0} where
  -- a refusal k lines further down
  abbrev pub lower : ℕ → Ran State → Ran State
  lower k (refused (line n f)) = refused (line (k + n) f)
  lower k (ok h) = ok h

  pub more-zero : (c : Ran State) → more 0 0 c ≡ c
  more-zero (refused (line n f)) = refl
  more-zero (ok h) = rw (zero-add h.visited, zero-add h.tried)

  pub lower-zero : (c : Ran State) → lower 0 c ≡ c
  lower-zero (refused (line n f)) = rw (zero-add n)
  lower-zero (ok h) = refl

  pub more-more : (v t w u : ℕ) (c : Ran State) → more v t (more w u c) ≡ more (v + w) (t + u) c
  more-more v t w u (refused f) = refl
  more-more v t w u (ok h) = rw (add_assoc v w h.visited, add_assoc t u h.tried)

  more-lines : (v t k : ℕ) (c : Ran State) → more v t (lower k c) ≡ lower k (more v t c)
  more-lines v t k (refused (line n f)) = refl
  more-lines v t k (ok h) = refl

  pub more-lower : (v t w u n m : ℕ) (c : Ran State) → more v t (lower n (more w u (lower m c))) ≡ more (v + w) (t + u) (lower (n + m) c)
  more-lower v t w u n m (refused (line k f)) = rw (add_assoc n m k)
  more-lower v t w u n m (ok h) = rw (add_assoc v w h.visited, add_assoc t u h.tried)

module _ (E : Engine) where
  open E.reader use {Rule, label, goto}
  open E use {Device, State, step, tried}

  module _ (d : Device) (ys : List (Placed Rule)) where
    -- the later rules, from where the earlier ones halted
    abbrev pub onto : Halt State → Ran State
    onto h = more h.visited h.tried (run_from E d h.mode h.state ys)

    more-bind : (t : ℕ) (c : Ran State) → more 1 t (c >>= onto) ≡ (more 1 t c >>= onto)
    more-bind t (refused f) = refl
    more-bind t (ok h) = more-more 1 t h.visited h.tried (run_from E d h.mode h.state ys)

    module _ (k l : Mode → State → Ran State) (same : (m : Mode) (s : State) → k m s ≡ (l m s >>= onto)) where
      started-bind : (r : Checked Refusal (Stepped State)) (n t : ℕ) (g : Option (List ℕ)) → started E r n t g k ≡ (started E r n t g l >>= onto)
      started-bind (refused f) n t g = refl
      started-bind (ok (went s held)) n t g = ap (more 1 t) (same (after held g) s) ∙ more-bind t (l (after held g) s)

      visit-bind : (b : Bool) (n : ℕ) (r : Rule) (m : Mode) (s : State) → visit E b d n r m s k ≡ (visit E b d n r m s l >>= onto)
      visit-bind false n r m s = same m s
      visit-bind true n r m s = started-bind (step d r s) n (tried d r s) (goto r)

    -- the rules of a join run as the first rules, and then the others
    pub run-append : (xs : List (Placed Rule)) (m : Mode) (s : State) → run_from E d m s (xs ++ ys) ≡ (run_from E d m s xs >>= onto)
    unfolding run_from
    run-append [] m s = sym (more-zero (run_from E d m s ys))
    run-append (line n r ∷ xs) m s =
        visit-bind (λ m' s'. run_from E d m' s' (xs ++ ys)) (λ m' s'. run_from E d m' s' xs) (λ m' s'. run-append xs m' s')
        (begins m (label r)) n r m s

  module _ (d : Device) (j : ℕ) where
    module _ (k l : Mode → State → Ran State) (same : (m : Mode) (s : State) → k m s ≡ lower j (l m s)) where
      started-lower : (r : Checked Refusal (Stepped State)) (n t : ℕ) (g : Option (List ℕ)) → started E r (j + n) t g k ≡ lower j (started E r n t g l)
      started-lower (refused f) n t g = refl
      started-lower (ok (went s held)) n t g = ap (more 1 t) (same (after held g) s) ∙ more-lines 1 t j (l (after held g) s)

      visit-lower : (b : Bool) (n : ℕ) (r : Rule) (m : Mode) (s : State) → visit E b d (j + n) r m s k ≡ lower j (visit E b d n r m s l)
      visit-lower false n r m s = same m s
      visit-lower true n r m s = started-lower (step d r s) n (tried d r s) (goto r)

    -- rules that stand j lines further down are refused there
    pub run-shift : (xs : List (Placed Rule)) (m : Mode) (s : State) → run_from E d m s (shift j xs) ≡ lower j (run_from E d m s xs)
    unfolding run_from
    run-shift [] m s = refl
    run-shift (line n r ∷ xs) m s =
        visit-lower (λ m' s'. run_from E d m' s' (shift j xs)) (λ m' s'. run_from E d m' s' xs) (λ m' s'. run-shift xs m' s')
        (begins m (label r)) n r m s
