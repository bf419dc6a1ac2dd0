-- Document 01, Running: the rules of an accepted text in order, with jumps, and the visited count; document 02, Item 9: the devices tried.
-- Assumes nothing.
use Rattle.std.specs.Prelude.{ℕ, ◌+◌, Bool, true, false, List, [], ◌∷◌}
use Rattle.std.specs.Prelude.{Option, None, Some}
use Rattle.lists.specs.Checked.{Checked, refused, ok, Placed, line}
use Rattle.lists.specs.Refusal.{Refusal}
use Rattle.text.specs.Engine.{Engine, Stepped, went}
use Rattle.text.specs.Reading.{has_label}

-- the next rule runs, or the next rule with a label does
pub data Mode : Type 0 where
  next : Mode
  seek : List ℕ → Mode

-- does a rule with this label begin?
abbrev pub begins : Mode → Option (List ℕ) → Bool
begins next l = true
begins (seek g) l = has_label g l

-- how the run goes on behind a rule with this GOTO, whose match keys held or not
abbrev pub after : Bool → Option (List ℕ) → Mode
after false g = next
after true None = next
after true (Some g) = seek g

-- where a run ends
pub record Halt (State : Type 0) : Type 0 where
  pub mode : Mode
  pub state : State
  pub visited : ℕ
  pub tried : ℕ

-- the result of a run
abbrev pub Ran : Type 0 → Type 0
Ran State = Checked (Placed Refusal) (Halt State)

-- v rules more were visited and t devices more were tried
abbrev pub more : {State : Type 0} → ℕ → ℕ → Ran State → Ran State
more v t (refused f) = refused f
more v t (ok h) = ok (record { mode = h.mode; state = h.state; visited = v + h.visited; tried = t + h.tried })

module _ (E : Engine) where
  open E.reader use {Rule, label, goto}
  open E use {Device, State, step, tried}

  -- a rule on line n that began, for which t devices were tried: refused there, or visited, and then the later rules
  abbrev pub started : Checked Refusal (Stepped State) → ℕ → ℕ → Option (List ℕ) → (Mode → State → Ran State) → Ran State
  started (refused f) n t g later = refused (line n f)
  started (ok (went s held)) n t g later = more 1 t (later (after held g) s)

  -- a rule begins, or is passed over
  abbrev pub visit : Bool → Device → ℕ → Rule → Mode → State → (Mode → State → Ran State) → Ran State
  visit false d n r m s later = later m s
  visit true d n r m s later = started (step d r s) n (tried d r s) (goto r) later

  unfoldable pub run_from : Device → Mode → State → List (Placed Rule) → Ran State
  run_from d m s [] = ok (record { mode = m; state = s; visited = 0; tried = 0 })
  run_from d m s (line n r ∷ ps) = visit (begins m (label r)) d n r m s (λ m' s'. run_from d m' s' ps)
