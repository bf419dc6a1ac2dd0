-- A text that was read, the records that it runs over, and what their runs leave.
-- Assumes nothing.
use Rattle.std.specs.Prelude.{ℕ, ◌*◌, ◌≤◌, ◌<◌, ◌≡◌, List, [], length, drop, replicate}
use Rattle.std.specs.Prelude.{Option, None, Some, Result, Ok, Err}
use Rattle.lists.specs.Checked.{refused, line}
use Rattle.lists.specs.Sizes.{fullest_outcome}
use Rattle.splice.specs.Moves.{padded}
use Rattle.entries.specs.Parse.{got, many}
use Rattle.rules.specs.Reading.{reader}
use Rattle.text.specs.Reading.{read_text}
use Rattle.refusals.specs.Refusals.{refusal_of}
use Rattle.refusals.specs.declared.LineRefusal.{LineRefusal}
use Rattle.reader.specs.declared.Counts.{Counts}
use Rattle.runner.specs.Runs.{Runnable}
use Rattle.action_rows.specs.Actions.{ActionsPut}
use Rattle.run.specs.Running.{Holds}
use Rattle.sets.specs.Lent.{most_records, Lent, one_lent, decode_lent}
use Rattle.set_answers.specs.Answers.{answered}
use Rattle.set_answers.specs.declared.Given.{Given}
use Rattle.numbers.specs.Numbers.{most_numbers}
use Rattle.each.specs.Each.{each_runs, targets_of, answers_of, Each}

-- ---- a text that was read

-- a table that may run, or a line that can be written
abbrev pub Readable : List ℕ → List ℕ → List ℕ → List ℕ → Result Counts LineRefusal → Type 0
Readable v r t js (Ok c) = Runnable v r t js c.rules
Readable v r t js (Err f) = f.line < 65536

-- it is this text
abbrev pub ReadAs : List ℕ → List ℕ → List ℕ → List ℕ → Result Counts LineRefusal → Type 0
ReadAs text v r t (Ok c) = Holds text v r t c.rules
ReadAs text v r t (Err f) = read_text reader text ≡ refused (line f.line (refusal_of f.refusal))

-- the row of each rule's ACTION is noted, if it is accepted
abbrev pub Noted : List ℕ → List ℕ → List ℕ → Result Counts LineRefusal → Type 0
Noted r t t' (Ok c) = ActionsPut r t t' c.rules
Noted r t t' (Err f) = t' ≡ t

-- ---- the records

abbrev pub or_none : Option (List Lent) → List Lent
or_none None = []
or_none (Some ls) = ls

-- those of a set, none where it is refused
unfoldable pub lents_in : List ℕ → List Lent
lents_in set = or_none (decode_lent set)

-- n records stand in a set, there is room for the runs of all, and no numbers are written yet
pub record Going (set : List ℕ) (n : ℕ) (targets answers : List ℕ) : Type 0 where
  pub some : 1 ≤ length set
  pub few : n ≤ most_records
  pub standing : many one_lent n (drop 1 set) ≡ got (lents_in set) []
  pub room : n * fullest_outcome ≤ length targets
  pub places : n * most_numbers ≤ length answers
  pub clear : answers ≡ replicate (length answers) 0

-- ---- what is left

-- the runs of all records of a set, with zeros behind them
pub record RunsIn (text set sheet : List ℕ) (room places : ℕ) (targets answers : List ℕ) : Type 0 where
  pub targets_are : targets ≡ padded room (targets_of (each_runs text sheet (lents_in set)))
  pub answers_are : answers ≡ padded places (answers_of (each_runs text sheet (lents_in set)))

-- what the operation gives back and leaves
abbrev pub wrote : Given → List ℕ → List ℕ → Each
wrote g targets answers = record { own = answered g targets; answers = answers }
