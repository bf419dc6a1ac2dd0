-- Document 02, Item 12, of the exported function: what is wanted of the texts and the lists that calls of `spillfinch_strike` make.
-- Assumes nothing.
use Rattle.std.specs.Prelude.{ℕ, ◌*◌, ◌≤◌, ◌≡◌, List, length, get_or, take}
use Rattle.lists.specs.Checked.{Placed}
use Rattle.lists.specs.Sizes.{most_rules}
use Rattle.text.specs.Lines.{lines}
use Rattle.text.specs.Engine.{LineRead}
use Rattle.text.specs.Reading.{reads}
use Rattle.rules.specs.Pair.{Rule}
use Rattle.rules.specs.Reading.{reader}
use Rattle.striking.specs.Striking.{most_strikes, strikes_of, laid_out}
use Rattle.striking.specs.Wanted.{Grounds, become_all}
use Rattle.spillfinch.specs.Exports.{CheckGives, StrikeGives}
use Rattle.spillfinch.specs.Joined.{number_in, used_in, Checked}
use Rattle.spillfinch.specs.Written.{made_in}

abbrev pub count_in : List ℕ → ℕ
count_in written = get_or written 6 0

-- the list that a call made: for each strike its line and the number of its fault
abbrev pub list_in : List ℕ → List ℕ → List ℕ
list_in written list = take (count_in written * 2) list

-- the lines of a text as they are judged: each is kept, or struck for its ground, and this gives the text and the list that a call made
pub record Judged (text written target list : List ℕ) (ls : List (Placed (LineRead Rule))) : Type 0 where
  pub grounds : Grounds reader most_rules (reads reader text) ls
  -- a kept line has its number and its bytes; a struck one is as many empty lines
  pub kept : lines (made_in written target) ≡ become_all reader (lines text) ls
  pub listed : list_in written list ≡ laid_out (strikes_of ls)

-- of a call that is not refused
pub record WellStruck (text : List ℕ) (room places : ℕ) (written target list : List ℕ) : Type 0 where
  -- `spillfinch_check` accepts the text that was made
  pub accepted : (checked : List ℕ) → CheckGives (made_in written target) checked → number_in checked ≡ 0
  pub judged : (ls : List (Placed (LineRead Rule))) × Judged text written target list ls
  -- a text that `spillfinch_check` accepts stays as it is
  pub unchanged : Checked text → (made_in written target ≡ text) × (count_in written ≡ 0)
  -- a call for what was made, with the same room, makes the same and strikes nothing
  pub twice : (written' target' list' : List ℕ) → StrikeGives (made_in written target) room places written' target' list' → (target' ≡ target) × (count_in written' ≡ 0)
  pub few : count_in written ≤ most_strikes
  pub no_longer : used_in written ≤ length text

-- of every call that is not refused
abbrev pub Struck : Type 0
Struck = (text : List ℕ) (room places : ℕ) (written target list : List ℕ) → StrikeGives text room places written target list → number_in written ≡ 0 → WellStruck text room places written target list
