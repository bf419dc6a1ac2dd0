-- Document 02, Item 7: the list in the target, and the answer for any bytes: 1, then 7, then for each record in turn 3 and 4.
-- Assumes nothing.
use Rattle.std.specs.Prelude.{ℕ, suc, List, [], ◌∷◌, ◌++◌, leb, length}
use Rattle.lists.specs.Lists.{cat}
use Rattle.lists.specs.Checked.{Checked, refused, ok, ◌>>=◌, ◌>>◌, require, found}
use Rattle.lists.specs.Refusal.{target_short, set_bad, device_bad, outcome_bad}
use Rattle.device.specs.Device as D
use Rattle.outcome.specs.State.{State}
use Rattle.engine.specs.Operations.{decode_for}
use Rattle.sets.specs.Lent.{Lent, decode_lent}
use Rattle.sets.specs.Answer.{Fault, of_set, of_record, Answer, refusal, acceptance}
use Rattle.contest.specs.Contest.{Listed, contest}

-- ---- the list in the target

-- a row: name length, holder, number of others, 8 bits each; the name; the others
abbrev pub enc_listed : Listed → List ℕ
enc_listed e = length e.name ∷ e.holder ∷ length e.others ∷ (e.name ++ e.others)

-- 1,024 rows of 131 bytes: a name of 128 bytes in each, and nobody but its holder claims it
abbrev pub fullest_contest : ℕ
fullest_contest = 134144

-- ---- the answer

-- the states that records hold, the first one at position n; a device is judged before its own record and behind the record before it
unfoldable pub states_from : ℕ → List Lent → Checked Fault (List State)
states_from n [] = ok []
states_from n (l ∷ ls) = do
  d ← found (D.decode l.device) (of_record n device_bad)
  s ← found (decode_for d l.outcome) (of_record n outcome_bad)
  ss ← states_from (suc n) ls
  ok (s ∷ ss)

-- those of a set
unfoldable pub states_of : List ℕ → Checked Fault (List State)
states_of set = do
  ls ← found (decode_lent set) (of_set set_bad)
  states_from 1 ls

unfoldable pub contest_checked : List ℕ → ℕ → Checked Fault (List Listed)
contest_checked set room = do
  require (leb fullest_contest room) (of_set target_short)
  ss ← states_of set
  ok (contest ss)

-- the names listed are counted
abbrev pub list_answer : ℕ → Checked Fault (List Listed) → Answer
list_answer room (refused f) = refusal room f
list_answer room (ok es) = acceptance room 0 0 (length es) (cat enc_listed es)

unfoldable pub contest_answer : List ℕ → ℕ → Answer
contest_answer set room = list_answer room (contest_checked set room)
