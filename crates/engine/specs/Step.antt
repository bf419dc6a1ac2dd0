-- Document 01, Running, and document 02, Item 6: one rule.
-- Assumes nothing.
use Rattle.std.specs.Prelude.{ℕ, true, false}
use Rattle.std.specs.Prelude.{Option, None, Some}
use Rattle.lists.specs.Checked.{Checked, refused, ok, ◌>>=◌}
use Rattle.lists.specs.Refusal.{Refusal}
use Rattle.rules.specs.Pair.{Rule}
use Rattle.device.specs.Device.{Device}
use Rattle.outcome.specs.State.{State}
use Rattle.text.specs.Engine.{Stepped, went}
use Rattle.engine.specs.Match.{matched}
use Rattle.sheet.specs.Sheet.{Sheet}
use Rattle.engine.specs.Assign.{Work, unset, assign_all}
use Rattle.engine.specs.Programs.{asked_then, ask_all, results_hold}

abbrev pub ended : Checked Refusal Work → Checked Refusal (Stepped State)
ended (refused f) = refused f
ended (ok w) = ok (went w.state true)

-- a rule that matched at a place assigns from the record as its programs left it; the escape setting begins anew
abbrev pub begun : State → Work
begun s = record { state = s; escape = unset }

-- RESULT last, then the assignments
unfoldable pub finished : Device → ℕ → Rule → State → Checked Refusal (Stepped State)
finished d place r s = elim (results_hold s r) [ true ↦ ended (assign_all d place r (begun s)) | false ↦ ok (went s false) ]

-- all other keys first, then the programs
unfoldable pub step_at : Option ℕ → Sheet → Device → Rule → State → Checked Refusal (Stepped State)
step_at None a d r s = ok (went s false)
step_at (Some place) a d r s = ask_all a d place r s >>= λ x. asked_then x (finished d place r)

unfoldable pub step : Sheet → Device → Rule → State → Checked Refusal (Stepped State)
step a d r s = step_at (matched d s r) a d r s
