-- A reply as code judges it, and what the search for a command answers.
-- Assumes nothing.
use Rattle.std.specs.Prelude.{ℕ, ◌+◌, ◌≤◌, ◌≡◌, Bool, true, ◌&&◌, List, eqb, length, take, drop}
use Rattle.std.specs.Prelude.{Option, None, Some}
use Rattle.lists.specs.Sizes.{most_output}
use Rattle.bits.specs.Bits.{number_at}
use Rattle.bits.specs.Fields.{flag_at}
use Rattle.sheet.specs.Sheet.{Reply, Sheet, ok_reply, decode, reply_to}
use Rattle.sheet_check.specs.declared.Reply.{Reply as Found}

-- the test of a reply, by its head and its texts
abbrev pub ok_reply_of : List ℕ → List ℕ → List ℕ → Bool
ok_reply_of head c o = eqb (number_at head 21 3) 0 && ok_reply (record { success = flag_at head 0; command = c; output = o })

-- the reply that was found: a sound one, its output a part of the sheet's bytes
pub record Told (l : List ℕ) (o : Option Reply) (good : Bool) (start len : ℕ) : Type 0 where
  pub reply : Reply
  pub is : o ≡ Some reply
  pub sound : ok_reply reply ≡ true
  pub success : reply.success ≡ good
  pub output : reply.output ≡ take len (drop start l)
  pub within : start + len ≤ length l
  pub few : len ≤ most_output

abbrev pub Says : List ℕ → Option Reply → Option Found → Type 0
Says l o (Some r) = Told l o r.success r.start r.len
Says l o None = o ≡ None

-- the answer is the reply to the command on the sheet that the bytes pack
abbrev pub AnswersTo : List ℕ → List ℕ → Option Found → Type 0
AnswersTo c l r = (a : Sheet) → decode l ≡ Some a → Says l (reply_to c a) r
