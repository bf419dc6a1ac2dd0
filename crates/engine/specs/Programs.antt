-- Document 02, Item 6: the PROGRAM and RESULT keys of a rule, by an answer sheet.
-- Assumes nothing.
use Rattle.std.specs.Prelude.{ℕ, Bool, true, false, not, [], ◌∷◌}
use Rattle.lists.specs.Lists.{all}
use Rattle.lists.specs.Runs.{chomp}
use Rattle.lists.specs.Checked.{Checked, ok, ◌>>=◌, found}
use Rattle.lists.specs.Refusal.{Refusal, command_missing}
use Rattle.rules.specs.Key.{PROGRAM, RESULT, same_key, Op, equal, unequal, assign, add, remove, final}
use Rattle.rules.specs.Pair.{Pair, Rule}
use Rattle.device.specs.Device.{Device}
use Rattle.outcome.specs.State.{State}
use Rattle.outcome.specs.Change.{with_output}
use Rattle.sheet.specs.Sheet.{Reply, Sheet, reply_to}
use Rattle.text.specs.Engine.{Stepped, went}
use Rattle.engine.specs.Match.{value_holds}
use Rattle.engine.specs.Substitute.{filled}
use Rattle.engine.specs.Assign.{source_of}

-- `!=` holds where the program failed, every other operator where it succeeded
abbrev pub program_holds : Op → Bool → Bool
program_holds unequal success = not success
program_holds equal success = success
program_holds assign success = success
program_holds add success = success
program_holds remove success = success
program_holds final success = success

-- a success stores its output without the newlines at its end; a failure leaves what is stored
unfoldable pub stored : Reply → State → State
stored r s = elim r.success [ true ↦ with_output s (chomp r.output) | false ↦ s ]

-- one PROGRAM: its command (30), which must be on the sheet (35); then what it stores, and whether it holds
unfoldable pub asked : Sheet → Device → ℕ → Pair → State → Checked Refusal (Stepped State)
asked a d place p s = do
  command ← filled false (source_of d place s) p.value
  r ← found (reply_to command a) command_missing
  ok (went (stored r s) (program_holds p.op r.success))

-- one pair: only PROGRAM asks
unfoldable pub ask_pair : Sheet → Device → ℕ → Pair → State → Checked Refusal (Stepped State)
ask_pair a d place p s = elim (same_key p.key PROGRAM) [ true ↦ asked a d place p s | false ↦ ok (went s true) ]

-- on behind what was asked, if it held
abbrev pub asked_then : Stepped State → (State → Checked Refusal (Stepped State)) → Checked Refusal (Stepped State)
asked_then (went s true) later = later s
asked_then (went s false) later = ok (went s false)

-- the programs of a rule left to right, to the first that does not hold; what they stored stands all the same
unfoldable pub ask_all : Sheet → Device → ℕ → Rule → State → Checked Refusal (Stepped State)
ask_all a d place [] s = ok (went s true)
ask_all a d place (p ∷ ps) s = ask_pair a d place p s >>= λ x. asked_then x (λ s'. ask_all a d place ps s')

-- RESULT on the output that is stored
unfoldable pub result_holds : State → Pair → Bool
result_holds s p = elim (same_key p.key RESULT) [ true ↦ value_holds p s.output | false ↦ true ]

unfoldable pub results_hold : State → Rule → Bool
results_hold s r = all (λ p. result_holds s p) r
