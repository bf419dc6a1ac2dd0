-- What the programs of a rule leave, and its RESULT keys.
-- Assumes nothing.
use Rattle.std.specs.Prelude.{ℕ, ◌≡◌, Bool, true, false, List, length}
use Rattle.std.specs.Prelude.{Some, Result, Ok, Err}
use Rattle.lists.specs.Lists.{all}
use Rattle.lists.specs.Runs.{chomp}
use Rattle.lists.specs.Checked.{Checked, refused, ok, ◌>>=◌, found}
use Rattle.lists.specs.Refusal as refusal
use Rattle.rules.specs.Key.{RESULT, same_key, Op}
use Rattle.rules.specs.Pair.{Pair, Rule}
use Rattle.refusals.specs.Refusals.{refusal_of}
use Rattle.refusals.specs.declared.Refusal.{Refusal}
use Rattle.device.specs.Device.{Device, chain}
use Rattle.device_lookup.specs.declared.Chain.{Chain}
use Rattle.outcome.specs.State.{State}
use Rattle.outcome.specs.Change.{with_output}
use Rattle.outcome_target.specs.Held as target
use Rattle.outcome_target.specs.declared.Layout.{Layout}
use Rattle.sheet.specs.Sheet.{Sheet, decode, reply_to}
use Rattle.text.specs.Engine.{Stepped, went}
use Rattle.engine.specs.Match.{value_holds}
use Rattle.engine.specs.Substitute.{filled}
use Rattle.engine.specs.Assign.{source_of}
use Rattle.engine.specs.Programs.{program_holds, stored, asked_then, ask_all, results_hold}
use Rattle.records.specs.Records.{Denotes}
use Rattle.programs.specs.declared.Asked.{Asked}
use Rattle.programs.specs.declared.Asked.TheVariants.{Held, Failed}

-- an answer beside what the definition gives; a refused one leaves nothing of use in the target
abbrev pub Says : ℕ → List ℕ → Result Asked Refusal → Checked refusal.Refusal (Stepped State) → Type 0
Says n t (Ok (Held lay)) c = (s : State) × (c ≡ ok (went s true)) × target.Held n t lay s
Says n t (Ok (Failed lay)) c = (s : State) × (c ≡ ok (went s false)) × target.Held n t lay s
Says n t (Err f) c = c ≡ refused (refusal_of f)

-- the same of every device and state that the records hold, with the sheet that the bytes pack
abbrev pub AsksBeside : (Sheet → Device → State → Checked refusal.Refusal (Stepped State)) → List ℕ → List ℕ → Chain → List ℕ → Layout → List ℕ → Result Asked Refusal → Type 0
AsksBeside op sheet dev places t lay t' x =
    (a : Sheet) → decode sheet ≡ Some a → (d : Device) (s : State) → Denotes dev places t lay d s → Says (length (chain d)) t' x (op a d s)

-- ---- one program

-- what a reply stores, by whether it is a success and by its output
abbrev pub stored_by : Bool → List ℕ → State → State
stored_by true o s = with_output s (chomp o)
stored_by false o s = s

-- what the sheet says to a command
abbrev pub replied : Sheet → Op → List ℕ → State → Checked refusal.Refusal (Stepped State)
replied a o command s = found (reply_to command a) refusal.command_missing >>= λ r. ok (went (stored r s) (program_holds o r.success))

abbrev pub Replies : Op → List ℕ → List ℕ → List ℕ → Layout → List ℕ → Result Asked Refusal → Type 0
Replies o command sheet t lay t' x = (a : Sheet) → decode sheet ≡ Some a → (n : ℕ) (s : State) → target.Held n t lay s → Says n t' x (replied a o command s)

-- a PROGRAM with this operator and value
abbrev pub asked_by : Sheet → Device → ℕ → Op → List ℕ → State → Checked refusal.Refusal (Stepped State)
asked_by a d place o v s = filled false (source_of d place s) v >>= λ command. replied a o command s

-- ---- RESULT

-- a pair on an output
abbrev pub result_on : List ℕ → Pair → Bool
result_on x p = elim (same_key p.key RESULT) [ true ↦ value_holds p x | false ↦ true ]

unfoldable pub results_on : List ℕ → Rule → Bool
results_on x r = all (result_on x) r

-- ---- a rule

-- its programs, then its RESULT keys
abbrev pub judged_by : Sheet → Device → ℕ → Rule → State → Checked refusal.Refusal (Stepped State)
judged_by a d place r s = ask_all a d place r s >>= λ x. asked_then x (λ s'. ok (went s' (results_hold s' r)))
