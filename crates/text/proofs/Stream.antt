-- Running line by line is running the rules.
-- Assumes nothing.
use Prim.Native.Nat.{ℕ, ◌+◌}
use mathlib.Core.Path.{◌≡◌, refl}
use mathlib.Core.Bool.{Bool, true, false}
use mathlib.Core.List.{List, ◌∷◌}
use Rattle.std.specs.Prelude.{Option}
use Rattle.lists.specs.Checked.{Checked, refused, ok, ◌>>=◌, Placed, line}
use Rattle.lists.specs.Refusal.{Refusal}
use Rattle.text.specs.Engine.{Engine, LineRead, skip, fault, rule, Stepped, went}
use Rattle.text.specs.Running.{Mode, Halt, Ran, more, begins, after, started, visit, run_from}
use Rattle.text.specs.Rules.{rules_in, stepped, line_begins, run_line}
use Rattle.text.proofs.Running.{more-more}

module _ (E : Engine) where
  open E.reader use {Rule, label, goto}
  open E use {Device, State, step, tried}

  module _ (d : Device) (ls : List (Placed (LineRead Rule))) where
    -- the lines behind
    abbrev pub behind : Halt State → Ran State
    behind h = more h.visited h.tried (run_from E d h.mode h.state (rules_in ls))

    stepped-behind : (c : Checked Refusal (Stepped State)) (n k : ℕ) (g : Option (List ℕ)) (v t : ℕ)
        → more v t (started E c n k g (λ m s. run_from E d m s (rules_in ls))) ≡ (stepped E c n k g v t >>= behind)
    stepped-behind (refused f) n k g v t = refl
    stepped-behind (ok (went s held)) n k g v t = more-more v t 1 k (run_from E d (after held g) s (rules_in ls))

    begins-behind : (b : Bool) (m : Mode) (s : State) (v t n : ℕ) (r : Rule)
        → more v t (visit E b d n r m s (λ m' s'. run_from E d m' s' (rules_in ls))) ≡ (line_begins E b d m s v t n r >>= behind)
    begins-behind false m s v t n r = refl
    begins-behind true m s v t n r = stepped-behind (step d r s) n (tried d r s) (goto r) v t

    -- the rules from a line on run as that line, and then the lines behind
    pub run-line : (x : Placed (LineRead Rule)) (m : Mode) (s : State) (v t : ℕ)
        → more v t (run_from E d m s (rules_in (x ∷ ls))) ≡ (run_line E d m s v t x >>= behind)
    unfolding run_from rules_in run_line
    run-line (line n skip) m s v t = refl
    run-line (line n (fault f)) m s v t = refl
    run-line (line n (rule r)) m s v t = begins-behind (begins m (label r)) m s v t n r
