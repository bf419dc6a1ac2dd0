-- Document 02, Items 7, 11 and 14: the answer of an operation on a set. To document 01's numbers come the record or file that a refusal is
-- about, and a count.
-- Assumes nothing.
use Rattle.std.specs.Prelude.{ℕ, ◌-◌, List, ◌++◌, length, replicate}
use Rattle.lists.specs.Refusal.{Refusal, number}

-- why a call with a set is refused; the position counts from 1 in the lent order, and 0 is none; line 0 is none
pub record Fault : Type 0 where
  pub why : Refusal
  pub position : ℕ
  pub line : ℕ

abbrev pub of_set : Refusal → Fault
of_set f = record { why = f; position = 0; line = 0 }

abbrev pub of_record : ℕ → Refusal → Fault
of_record n f = record { why = f; position = n; line = 0 }

-- the numbers, and every byte of the target; what is counted is the operation's own affair
pub record Answer : Type 0 where
  pub number : ℕ
  pub position : ℕ
  pub line : ℕ
  pub visited : ℕ
  pub tried : ℕ
  pub used : ℕ
  pub count : ℕ
  pub bytes : List ℕ

-- a refusal: all counts are 0, and so is every byte of the target
abbrev pub refusal : ℕ → Fault → Answer
refusal room f =
    record { number = number f.why; position = f.position; line = f.line; visited = 0; tried = 0; used = 0; count = 0; bytes = replicate room 0 }

-- an acceptance: the counts, and what was made with zeros behind it
abbrev pub acceptance : ℕ → ℕ → ℕ → ℕ → List ℕ → Answer
acceptance room visited tried count made = record {
  number = 0;
  position = 0;
  line = 0;
  visited = visited;
  tried = tried;
  used = length made;
  count = count;
  bytes = made ++ replicate (room - length made) 0;
}
