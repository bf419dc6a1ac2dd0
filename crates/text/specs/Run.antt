-- Document 01, Numbers given back: what a run gives back for each text, device record, outcome record and room of the target.
-- Assumes nothing.
use Rattle.std.specs.Prelude.{ℕ, ◌-◌, List, ◌++◌, leb, length, replicate}
use Rattle.lists.specs.Checked.{Checked, refused, ok, ◌>>=◌, ◌>>◌, require, found, Placed, line}
use Rattle.lists.specs.Refusal.{Refusal, number, target_short, device_bad, outcome_bad}
use Rattle.lists.specs.Sizes.{fullest_outcome}
use Rattle.text.specs.Engine.{Engine}
use Rattle.text.specs.Reading.{read_text}
use Rattle.text.specs.Running.{Halt, Ran, next, run_from}

-- the numbers, and every byte of the target
pub record Answer : Type 0 where
  pub number : ℕ
  pub line : ℕ
  pub visited : ℕ
  -- document 02, Item 9
  pub tried : ℕ
  pub used : ℕ
  pub bytes : List ℕ

-- a refusal: its number and line, nothing visited, tried or used, the whole target zero
abbrev pub refusal : ℕ → Placed Refusal → Answer
refusal room (line n f) = record { number = number f; line = n; visited = 0; tried = 0; used = 0; bytes = replicate room 0 }

-- an acceptance: the counts, and what was made with zeros behind it
abbrev pub acceptance : ℕ → ℕ → ℕ → List ℕ → Answer
acceptance room visited tried made =
    record { number = 0; line = 0; visited = visited; tried = tried; used = length made; bytes = made ++ replicate (room - length made) 0 }

module _ (E : Engine) where
  open E use {State, device, decode, encode}

  unfoldable pub answer : ℕ → Ran State → Answer
  answer room (refused f) = refusal room f
  answer room (ok h) = acceptance room h.visited h.tried (encode h.state)

  -- the checks in the table's order: 1; 2 and 10 to 20; 3; 4; then 30 and up as the rules run
  unfoldable pub run_checked : List ℕ → List ℕ → List ℕ → ℕ → Ran State
  run_checked text dev out room = do
    require (leb fullest_outcome room) (line 0 target_short)
    rs ← read_text E.reader text
    d ← found (device dev) (line 0 device_bad)
    s ← found (decode d out) (line 0 outcome_bad)
    run_from E d next s rs

  unfoldable pub run : List ℕ → List ℕ → List ℕ → ℕ → Answer
  run text dev out room = answer room (run_checked text dev out room)
