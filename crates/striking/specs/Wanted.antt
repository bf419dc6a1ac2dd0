-- Document 02, Item 12: what is wanted of the striker.
-- Assumes nothing.
use Rattle.std.specs.Prelude.{ℕ, zero, suc, ◌≤◌, ◌≡◌, ◌⊎◌, List, [], ◌∷◌, ◌++◌, length, replicate}
use Rattle.std.specs.Prelude.{None, Some}
use Rattle.lists.specs.Checked.{ok, Placed, line}
use Rattle.lists.specs.Refusal.{rule_extra, label_missing}
use Rattle.lists.specs.Sizes.{most_text, most_rules}
use Rattle.text.specs.Lines.{lines, numbered, newlines}
use Rattle.text.specs.Engine.{Reader, LineRead, skip, fault, rule}
use Rattle.text.specs.Reading.{goes_to, reads, read_text}
use Rattle.text.specs.Rules.{rules_in}
use Rattle.striking.specs.Striking.{most_strikes, judged, strikes, struck}

module _ (R : Reader) where
  open R use {Rule, goto}

  -- ---- why each line is struck or kept

  -- a rule has a GOTO, and none of the later rules that are kept has its label
  abbrev pub Unanswered : Rule → List (Placed (LineRead Rule)) → Type 0
  Unanswered r later = (g : List ℕ) × (goto r ≡ Some g) × (goes_to R g (rules_in later) ≡ None)

  -- a rule has none, or one that such a rule answers
  abbrev pub Answered : Rule → List (Placed (LineRead Rule)) → Type 0
  Answered r later = (goto r ≡ None) ⊎ ((g : List ℕ) × (l : ℕ) × (goto r ≡ Some g) × (goes_to R g (rules_in later) ≡ Some l))

  -- with k rules still allowed: a line as it is read, as it is judged in the end, and how the lines behind it are judged
  abbrev pub Ground : ℕ → LineRead Rule → LineRead Rule → List (Placed (LineRead Rule)) → Type 0
  Ground k skip y later = y ≡ skip
  -- 20, or 10 to 17: the fault of reading it
  Ground k (fault f) y later = y ≡ fault f
  -- 18
  Ground zero (rule r) y later = y ≡ fault rule_extra
  -- 19
  Ground (suc k) (rule r) y later = ((y ≡ rule r) × Answered r later) ⊎ ((y ≡ fault label_missing) × Unanswered r later)

  -- the rules that are still allowed behind a line
  abbrev pub allowed : ℕ → LineRead Rule → ℕ
  allowed k skip = k
  allowed k (fault f) = k
  allowed zero (rule r) = zero
  allowed (suc k) (rule r) = k

  -- of each line of a text, under its number
  abbrev pub Grounds : ℕ → List (Placed (LineRead Rule)) → List (Placed (LineRead Rule)) → Type 0
  Grounds k [] [] = Unit {0}
  Grounds k [] (y ∷ ys) = ⊥
  Grounds k (x ∷ xs) [] = ⊥
  Grounds k (line n x ∷ xs) (line m y ∷ ys) = (n ≡ m) × (Ground k x y ys × Grounds (allowed k x) xs ys)

  -- ---- what each line becomes

  -- a kept line is the same at the same number; for each physical line of a struck one there is an empty line
  abbrev pub becomes : ℕ → LineRead Rule → List ℕ → List (Placed (List ℕ))
  becomes n skip l = line n l ∷ []
  becomes n (fault f) l = numbered n (replicate (suc (newlines l)) [])
  becomes n (rule r) l = line n l ∷ []

  unfoldable pub become_all : List (Placed (List ℕ)) → List (Placed (LineRead Rule)) → List (Placed (List ℕ))
  become_all [] xs = []
  become_all (l ∷ ls) [] = []
  become_all (line n l ∷ ls) (line m x ∷ xs) = becomes n x l ++ become_all ls xs

  pub record Wanted : Type 0 where
    -- what is made is an accepted text, whose rules are those kept, at their numbers
    pub accepted : (t : List ℕ) → length t ≤ most_text → read_text R (struck R t) ≡ ok (rules_in (judged R t))
    -- a kept line stays at its number with its bytes
    pub kept : (t : List ℕ) → lines (struck R t) ≡ become_all (lines t) (judged R t)
    -- an accepted text stays as it is
    pub unchanged : (t : List ℕ) (rs : List (Placed Rule)) → read_text R t ≡ ok rs → (struck R t ≡ t) × (strikes R t ≡ [])
    -- and so striking twice is striking once
    pub twice : (t : List ℕ) → length t ≤ most_text → (struck R (struck R t) ≡ struck R t) × (strikes R (struck R t) ≡ [])
    -- a line is struck exactly for its ground
    pub grounds : (t : List ℕ) → Grounds most_rules (reads R t) (judged R t)
    -- there is room for all strikes
    pub few : (t : List ℕ) → length t ≤ most_text → length (strikes R t) ≤ most_strikes
    -- the text that is made is no longer
    pub no_longer : (t : List ℕ) → length (struck R t) ≤ length t
