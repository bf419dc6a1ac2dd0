-- Document 02, Item 14: what is wanted of checker and planner.
-- Assumes nothing.
use Rattle.std.specs.Prelude.{ℕ, ◌≤◌, ◌≡◌, ◌↔◌, true, false, List, [], ◌∷◌, take}
use Rattle.std.specs.Prelude.{None, Some}
use Rattle.lists.specs.Lists.{All}
use Rattle.lists.specs.Checked.{ok}
use Rattle.lists.specs.Sizes.{most_text, fullest_outcome}
use Rattle.text.specs.Run.{Answer}
use Rattle.outcome.specs.State.{State}
use Rattle.sheet.specs.Sheet as sheet
use Rattle.engine.specs.Operations.{decode_for, run, fresh}
use Rattle.sets.specs.LaidOut.{LaidOut}
use Rattle.plan.specs.Plan.{Naming, unanswered, due, plan_text}
use Rattle.plan.specs.Operations.{most_wishes, ok_wish, enc_wish, one_wish, namings, check, plan_checked, plan}

-- every set within its size has its bytes, and 7 is for other bytes alone: 1 to 16 device records, sound or not, to 65,535 bytes each, and
-- links of at most 255
abbrev pub WishesLaidOut : Type 0
WishesLaidOut = LaidOut enc_wish ok_wish one_wish 1 most_wishes

-- what an operation made, without the zeros behind it
abbrev made : Answer → List ℕ
made a = take a.used a.bytes

-- the run of a text on a device from a record with a sheet of no replies, as the public operation gives it
abbrev pub run_from : List ℕ → Naming → List ℕ → Answer
run_from text n start = run text n.bytes_lent start (sheet.encode unanswered) fullest_outcome

-- such a run from the fresh record is accepted, and leaves the link that is wanted and nothing else in the list of links
pub record Named (text : List ℕ) (n : Naming) : Type 0 where
  pub start : List ℕ
  pub begun : made (fresh n.bytes_lent fullest_outcome) ≡ start
  pub runs : (run_from text n start).number ≡ 0
  pub state : State
  pub left : decode_for n.device (made (run_from text n start)) ≡ Some state
  pub linked : state.links ≡ n.link ∷ []

pub record Planning : Type 0 where
  -- the checker accepts exactly the texts that name every device as wanted
  pub exact : (set text : List ℕ) (ns : List Naming) → namings set ≡ ok ns → ((check set text).count ≡ 1) ↔ All (Named text) ns
  -- where a plan is due, there is one; otherwise there is none
  pub planned : (set : List ℕ) (room : ℕ) (ns : List Naming) → most_text ≤ room → namings set ≡ ok ns → due ns ≡ true → plan_checked set room ≡ ok (Some (plan_text ns))
  pub none_else : (set : List ℕ) (room : ℕ) (ns : List Naming) → most_text ≤ room → namings set ≡ ok ns → due ns ≡ false → plan_checked set room ≡ ok None
  -- the checker accepts a plan that was made, for the same set
  pub accepted : (set : List ℕ) (room : ℕ) → (plan set room).count ≡ 1 → (check set (take (plan set room).used (plan set room).bytes)).count ≡ 1
