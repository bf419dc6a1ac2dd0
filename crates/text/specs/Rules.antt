-- The rules of a text's lines, and running them line by line, as code does that keeps no list of rules.
-- Assumes nothing.
use Rattle.std.specs.Prelude.{ℕ, ◌+◌, Bool, true, false, List, [], ◌∷◌}
use Rattle.std.specs.Prelude.{Option}
use Rattle.lists.specs.Checked.{Checked, refused, ok, Placed, line}
use Rattle.lists.specs.Refusal.{Refusal}
use Rattle.text.specs.Engine.{Reader, Engine, LineRead, skip, fault, rule, Stepped, went}
use Rattle.text.specs.Reading.{reads}
use Rattle.text.specs.Running.{Mode, Ran, begins, after}

-- the lines that are rules
unfoldable pub rules_in : {Rule : Type 0} → List (Placed (LineRead Rule)) → List (Placed Rule)
rules_in [] = []
rules_in (line n skip ∷ ls) = rules_in ls
rules_in (line n (fault f) ∷ ls) = rules_in ls
rules_in (line n (rule r) ∷ ls) = line n r ∷ rules_in ls

-- the rules of a text
unfoldable pub rules_of : (R : Reader) → List ℕ → List (Placed R.Rule)
rules_of R t = rules_in (reads R t)

module _ (E : Engine) where
  open E.reader use {Rule, label, goto}
  open E use {Device, State, step, tried}

  -- where a run stands, with v rules visited and t devices tried
  abbrev pub standing : Mode → State → ℕ → ℕ → Ran State
  standing m s v t = ok (record { mode = m; state = s; visited = v; tried = t })

  -- of a rule for which k devices were tried
  abbrev pub stepped : Checked Refusal (Stepped State) → ℕ → ℕ → Option (List ℕ) → ℕ → ℕ → Ran State
  stepped (refused f) n k g v t = refused (line n f)
  stepped (ok (went s held)) n k g v t = standing (after held g) s (v + 1) (t + k)

  abbrev pub line_begins : Bool → Device → Mode → State → ℕ → ℕ → ℕ → Rule → Ran State
  line_begins false d m s v t n r = standing m s v t
  line_begins true d m s v t n r = stepped (step d r s) n (tried d r s) (goto r) v t

  -- one line of an accepted text: passed over, or its rule begins; v rules were visited and t devices tried before
  unfoldable pub run_line : Device → Mode → State → ℕ → ℕ → Placed (LineRead Rule) → Ran State
  run_line d m s v t (line n skip) = standing m s v t
  run_line d m s v t (line n (fault f)) = standing m s v t
  run_line d m s v t (line n (rule r)) = line_begins (begins m (label r)) d m s v t n r
