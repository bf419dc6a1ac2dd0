-- Document 02, Item 12: the text that is left once the lines with faults are struck, and the strikes.
-- Assumes nothing.
use Rattle.std.specs.Prelude.{ℕ, zero, suc, ◌-◌, ◌*◌, Bool, true, false, ◌&&◌, List, [], ◌∷◌, ◌++◌, leb, length, replicate}
use Rattle.std.specs.Prelude.{Option, None, Some}
use Rattle.lists.specs.Lists.{is_some}
use Rattle.lists.specs.Checked.{Checked, refused, ok, ◌>>◌, require, Placed, line}
use Rattle.lists.specs.Refusal.{Refusal, number, target_short, text_long, rule_extra, label_missing}
use Rattle.lists.specs.Sizes.{most_text, most_rules}
use Rattle.text.specs.Lines.{blank, lines_in, newlines}
use Rattle.text.specs.Engine.{Reader, LineRead, skip, fault, rule}
use Rattle.text.specs.Reading.{goes_to, reads}
use Rattle.text.specs.Rules.{rules_in}
use Rattle.text.specs.Run.{Answer, refusal, acceptance}

-- the strikes that there must be room for
abbrev pub most_strikes : ℕ
most_strikes = 16384

-- ---- which lines are struck: each that is judged as a fault in the end

module _ {Rule : Type 0} where
  -- 18: of lines as they are read, with k more rules allowed, each rule behind those is judged as a fault; a line with a fault counts for none
  unfoldable pub past_most : ℕ → List (Placed (LineRead Rule)) → List (Placed (LineRead Rule))
  past_most k [] = []
  past_most k (line n skip ∷ ls) = line n skip ∷ past_most k ls
  past_most k (line n (fault f) ∷ ls) = line n (fault f) ∷ past_most k ls
  past_most zero (line n (rule r) ∷ ls) = line n (fault rule_extra) ∷ past_most zero ls
  past_most (suc k) (line n (rule r) ∷ ls) = line n (rule r) ∷ past_most k ls

  -- the faults that are left, by their lines
  unfoldable pub strikes_of : List (Placed (LineRead Rule)) → List (Placed Refusal)
  strikes_of [] = []
  strikes_of (line n skip ∷ ls) = strikes_of ls
  strikes_of (line n (fault f) ∷ ls) = line n f ∷ strikes_of ls
  strikes_of (line n (rule r) ∷ ls) = strikes_of ls

  -- ---- what is left of a line as lent, joins included: of a struck one its newlines

  abbrev pub left_of : LineRead Rule → List ℕ → List ℕ
  left_of skip l = l
  left_of (fault f) l = replicate (newlines l) 10
  left_of (rule r) l = l

  -- of each line, beside what is judged of it
  unfoldable pub all_left : List (List ℕ) → List (Placed (LineRead Rule)) → List (List ℕ)
  all_left [] xs = []
  all_left (l ∷ ls) [] = l ∷ all_left ls []
  all_left (l ∷ ls) (line n x ∷ xs) = left_of x l ∷ all_left ls xs

-- a text of these lines
unfoldable pub together : List (List ℕ) → List ℕ
together [] = []
together (l ∷ []) = l
together (l ∷ m ∷ ls) = l ++ (10 ∷ together (m ∷ ls))

module _ (R : Reader) where
  open R use {Rule, goto}

  abbrev pub kept_by : Bool → Rule → LineRead Rule
  kept_by true r = rule r
  kept_by false r = fault label_missing

  -- a rule with a GOTO is kept if one of the later rules that are kept has its label
  abbrev pub answered_by : Option (List ℕ) → Rule → List (Placed Rule) → LineRead Rule
  answered_by None r later = rule r
  answered_by (Some g) r later = kept_by (is_some (goes_to R g later)) r

  -- 19: the lines behind a rule are judged before it
  unfoldable pub unanswered : List (Placed (LineRead Rule)) → List (Placed (LineRead Rule))
  unanswered [] = []
  unanswered (line n skip ∷ ls) = line n skip ∷ unanswered ls
  unanswered (line n (fault f) ∷ ls) = line n (fault f) ∷ unanswered ls
  unanswered (line n (rule r) ∷ ls) =
      let later = unanswered ls in
      line n (answered_by (goto r) r (rules_in later)) ∷ later

  -- each line of a text in the end: as it is read (20, 10 to 17), then 18, then 19
  unfoldable pub judged : List ℕ → List (Placed (LineRead Rule))
  judged text = unanswered (past_most most_rules (reads R text))

  unfoldable pub strikes : List ℕ → List (Placed Refusal)
  strikes text = strikes_of (judged text)

  unfoldable pub struck : List ℕ → List ℕ
  struck text = together (all_left (lines_in blank text) (judged text))

-- ---- the operation

-- the list of strikes: for each its line, then the number of its fault
unfoldable pub laid_out : List (Placed Refusal) → List ℕ
laid_out [] = []
laid_out (line n f ∷ ss) = n ∷ number f ∷ laid_out ss

pub record Made : Type 0 where
  pub text : List ℕ
  pub strikes : List (Placed Refusal)

-- the numbers, every byte of the target, how many lines were struck, and every number of the list
pub record StrikeAnswer : Type 0 where
  pub target : Answer
  pub count : ℕ
  pub list : List ℕ

abbrev pub strike_answer : ℕ → ℕ → Checked (Placed Refusal) Made → StrikeAnswer
strike_answer room places (refused f) = record { target = refusal room f; count = 0; list = replicate places 0 }
strike_answer room places (ok m) = record {
  target = acceptance room 0 0 m.text;
  count = length m.strikes;
  list = laid_out m.strikes ++ replicate (places - length (laid_out m.strikes)) 0;
}

module _ (R : Reader) where
  -- 1 for a target of too few bytes or a list of too few places, then 2
  unfoldable pub strike_checked : List ℕ → ℕ → ℕ → Checked (Placed Refusal) Made
  strike_checked text room places = do
    require (leb most_text room && leb (most_strikes * 2) places) (line 0 target_short)
    require (leb (length text) most_text) (line 0 text_long)
    ok (record { text = struck R text; strikes = strikes R text })

  unfoldable pub strike : List ℕ → ℕ → ℕ → StrikeAnswer
  strike text room places = strike_answer room places (strike_checked text room places)
