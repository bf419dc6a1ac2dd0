-- A text run over each record of a lent set, beside its device and with one answer sheet: what the caller's slices hold behind the call.
-- The set is that of document 02, Item 7; a run is that of Item 6.
-- Assumes nothing.
use Rattle.std.specs.Prelude.{ℕ, ◌*◌, ◌-◌, ◌&&◌, List, ◌++◌, map, leb, length, replicate}
use Rattle.lists.specs.Lists.{cat}
use Rattle.lists.specs.Checked.{Checked, refused, ok, ◌>>=◌, ◌>>◌, require, found}
use Rattle.lists.specs.Refusal.{target_short, set_bad}
use Rattle.lists.specs.Sizes.{fullest_outcome}
use Rattle.text.specs.Run.{Answer}
use Rattle.engine.specs.Operations.{run}
use Rattle.sets.specs.Lent.{Lent, decode_lent}
use Rattle.sets.specs.Answer as sets
use Rattle.sets.specs.Answer.{Fault, of_set, refusal}
use Rattle.numbers.specs.Numbers.{most_numbers, numbers}

-- ---- the runs

-- one record beside its device, into the room of the fullest record
abbrev pub run_of : List ℕ → List ℕ → Lent → Answer
run_of text sheet l = run text l.device l.outcome sheet fullest_outcome

-- each by itself, in lent order
abbrev pub each_runs : List ℕ → List ℕ → List Lent → List Answer
each_runs text sheet ls = map (run_of text sheet) ls

-- ---- what is written

-- the targets of runs, and their numbers, one behind the other
abbrev pub targets_of : List Answer → List ℕ
targets_of runs = cat (λ (a : Answer). a.bytes) runs

abbrev pub answers_of : List Answer → List ℕ
answers_of runs = cat numbers runs

-- the answer for the set, with every byte of `targets`; and every number of `answers`
pub record Each : Type 0 where
  pub own : sets.Answer
  pub answers : List ℕ

-- so much was made, zeros behind it
abbrev pub filled : ℕ → List ℕ → List ℕ
filled room made = made ++ replicate (room - length made) 0

-- the runs are counted, whatever they give; there is no line, and nothing of their counts
abbrev pub counted : ℕ → List ℕ → sets.Answer
counted n bytes = record { number = 0; position = 0; line = 0; visited = 0; tried = 0; used = 0; count = n; bytes = bytes }

abbrev pub each_of : ℕ → ℕ → Checked Fault (List Answer) → Each
each_of room places (refused f) = record { own = refusal room f; answers = replicate places 0 }
each_of room places (ok runs) = record { own = counted (length runs) (filled room (targets_of runs)); answers = filled places (answers_of runs) }

-- ---- the answer, for any bytes and any room: 7, then 1

-- there is room for the targets and the numbers of so many runs
abbrev pub room_for : ℕ → ℕ → ℕ → Checked Fault (Unit {0})
room_for n room places = require (leb (n * fullest_outcome) room && leb (n * most_numbers) places) (of_set target_short)

unfoldable pub each_checked : List ℕ → List ℕ → List ℕ → ℕ → ℕ → Checked Fault (List Answer)
each_checked text set sheet room places = do
  ls ← found (decode_lent set) (of_set set_bad)
  room_for (length ls) room places
  ok (each_runs text sheet ls)

unfoldable pub each_answer : List ℕ → List ℕ → List ℕ → ℕ → ℕ → Each
each_answer text set sheet room places = each_of room places (each_checked text set sheet room places)
