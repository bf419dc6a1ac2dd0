-- Document 01, Numbers given back: reading a text, refused by 2, then by 10 to 18 (and 20 of document 02, Item 10) line by line, then by 19.
-- Assumes nothing.
use Rattle.std.specs.Prelude.{ℕ, zero, suc, Bool, true, false, List, [], ◌∷◌, map, leb, length}
use Rattle.std.specs.Prelude.{Option, None, Some}
use Rattle.lists.specs.Lists.{pick}
use Rattle.lists.specs.Bytes.{same_bytes}
use Rattle.lists.specs.Checked.{Checked, refused, ok, ◌>>=◌, ◌>>◌, require, found, Placed, line, in_place}
use Rattle.lists.specs.Refusal.{Refusal, text_long, rule_extra, label_missing, line_open}
use Rattle.lists.specs.Sizes.{most_text, most_rules}
use Rattle.text.specs.Lines.{is_open, unjoined, lines}
use Rattle.text.specs.Engine.{Reader, LineRead, skip, fault, rule}

-- the rules of lines that were read, with k rules still allowed: 20, or 10 to 18, at the first line that has one
unfoldable pub collect : {Rule : Type 0} → ℕ → List (Placed (LineRead Rule)) → Checked (Placed Refusal) (List (Placed Rule))
collect k [] = ok []
collect k (line n skip ∷ ls) = collect k ls
collect k (line n (fault f) ∷ ls) = refused (line n f)
collect zero (line n (rule r) ∷ ls) = refused (line n rule_extra)
collect (suc k) (line n (rule r) ∷ ls) = collect k ls >>= λ rs. ok (line n r ∷ rs)

-- the number of lines that are rules
unfoldable pub rule_count : {Rule : Type 0} → List (Placed (LineRead Rule)) → ℕ
rule_count [] = 0
rule_count (line n skip ∷ ls) = rule_count ls
rule_count (line n (fault f) ∷ ls) = rule_count ls
rule_count (line n (rule r) ∷ ls) = suc (rule_count ls)

-- a rule's label is this one
abbrev pub has_label : List ℕ → Option (List ℕ) → Bool
has_label g None = false
has_label g (Some l) = same_bytes g l

module _ (R : Reader) where
  open R use {Rule, read_line, label, goto}

  -- document 01, Running: the line of the next rule with that label, of the rules behind the GOTO
  unfoldable pub goes_to : List ℕ → List (Placed Rule) → Option ℕ
  goes_to g [] = None
  goes_to g (line n r ∷ ps) = pick (has_label g (label r)) (Some n) (goes_to g ps)

  -- a GOTO on line n must find its label on a later rule
  abbrev pub resolved : ℕ → Option (List ℕ) → List (Placed Rule) → Checked (Placed Refusal) ℕ
  resolved n None ps = ok n
  resolved n (Some g) ps = found (goes_to g ps) (line n label_missing)

  -- 19 at the first GOTO without a later LABEL
  unfoldable pub settle : List (Placed Rule) → Checked (Placed Refusal) ℕ
  settle [] = ok 0
  settle (line n r ∷ ps) = resolved n (goto r) ps >> settle ps

  abbrev pub lent_by : Bool → List ℕ → LineRead Rule
  lent_by true l = fault line_open
  lent_by false l = read_line (unjoined l)

  -- document 02, Item 10: a line as lent has a fault if its join is open, whatever it holds; else its joined bytes are read
  unfoldable pub read_lent : List ℕ → LineRead Rule
  read_lent l = lent_by (is_open l) l

  -- each line of a text, as it is read
  abbrev pub reads : List ℕ → List (Placed (LineRead Rule))
  reads text = map (in_place read_lent) (lines text)

  unfoldable pub read_text : List ℕ → Checked (Placed Refusal) (List (Placed Rule))
  read_text text = do
    require (leb (length text) most_text) (line 0 text_long)
    rs ← collect most_rules (reads text)
    settle rs
    ok rs
