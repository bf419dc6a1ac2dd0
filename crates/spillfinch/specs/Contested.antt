-- Document 02, Item 7, of the exported function: what is wanted of the lists that calls of `spillfinch_contest` make.
-- Assumes nothing.
use Rattle.std.specs.Prelude.{ℕ, ◌≡◌, List, length, take, get_or}
use Rattle.lists.specs.Lists.{cat}
use Rattle.lists.specs.Checked.{ok}
use Rattle.outcome.specs.State.{State}
use Rattle.contest.specs.Contest.{Listed}
use Rattle.contest.specs.Operation.{enc_listed, states_of}
use Rattle.contest.specs.Promise.{Contested}
use Rattle.spillfinch.specs.Exports.{ContestGives}
use Rattle.spillfinch.specs.Joined.{number_in, used_in}

-- the sixth and the seventh number of an answer
abbrev pub position_in : List ℕ → ℕ
position_in written = get_or written 5 0

abbrev pub count_in : List ℕ → ℕ
count_in written = get_or written 6 0

-- of a call that is not refused
pub record Lists (set written target : List ℕ) : Type 0 where
  -- what the records of the set hold, in lent order
  pub states : List State
  pub held : states_of set ≡ ok states
  -- the target, cut at the used length, is a list of so many names
  pub list : List Listed
  pub bytes : take (used_in written) target ≡ cat enc_listed list
  pub counted : count_in written ≡ length list
  -- and the list is what is wanted of those records
  pub contested : Contested states list

-- of every such call
abbrev pub Contests : Type 0
Contests = (set : List ℕ) (room : ℕ) (written target : List ℕ) → ContestGives set room written target → number_in written ≡ 0 → Lists set written target
