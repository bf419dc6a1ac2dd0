-- The rules of a text as numbers: what the three slices of a table stand for.
-- Assumes nothing.
use Rattle.std.specs.Prelude.{ℕ, zero, suc, ◌+◌, ◌-◌, ◌*◌, ◌/◌, ◌%◌, ◌≤◌, ◌<◌, ◌≡◌, Bool, List, [], ◌∷◌, length, get_or}
use Rattle.lists.specs.Checked.{Placed, line}
use Rattle.lists.specs.Bytes.{part}
use Rattle.rules.specs.Pair.{Pair, Rule}
use Rattle.keys.specs.Table.{key_of, operator_of}
use Rattle.kinds.specs.Numbers.{key_with, op_with, plain_with}
use Rattle.glob.specs.Plain.{PlainIf}
use Rattle.table.specs.declared.Entry.{Entry}

-- ---- a pair: four numbers

-- its kind, then the places of its argument and its value, which follow each other
abbrev pub pair_with : List ℕ → ℕ → ℕ → ℕ → ℕ → Pair
pair_with values kind start middle end = record {
  key = key_with (kind / 16);
  argument = part values start middle;
  op = op_with (kind % 8);
  value = part values middle end;
}

abbrev pub pair_at : List ℕ → List ℕ → ℕ → Pair
pair_at values rows i = pair_with values (get_or rows (i * 4) 0) (get_or rows (i * 4 + 1) 0) (get_or rows (i * 4 + 2) 0) (get_or rows (i * 4 + 3) 0)

-- its mark, which says nothing of the pair itself
abbrev pub plain_at : List ℕ → ℕ → Bool
plain_at rows i = plain_with (get_or rows (i * 4) 0 / 8 % 2)

-- k pairs from the i-th on
unfoldable pub pairs_from : List ℕ → List ℕ → ℕ → ℕ → List Pair
pairs_from values rows i zero = []
pairs_from values rows i (suc k) = pair_at values rows i ∷ pairs_from values rows (suc i) k

-- ---- a rule: its line, its first row and the row behind its last, and one more than the rule that its GOTO goes to, or 0

abbrev pub rule_with : List ℕ → List ℕ → ℕ → ℕ → ℕ → Placed Rule
rule_with values rows n from to = line n (pairs_from values rows from (to - from))

abbrev pub rule_at : List ℕ → List ℕ → List ℕ → ℕ → Placed Rule
rule_at values rows rules i = rule_with values rows (get_or rules (i * 4) 0) (get_or rules (i * 4 + 1) 0) (get_or rules (i * 4 + 2) 0)

-- k rules from the i-th on
unfoldable pub rules_from : List ℕ → List ℕ → List ℕ → ℕ → ℕ → List (Placed Rule)
rules_from values rows rules i zero = []
rules_from values rows rules i (suc k) = rule_at values rows rules i ∷ rules_from values rows rules (suc i) k

-- ---- what a row and a rule keep to

pub record RowIn (values rows : List ℕ) (i used : ℕ) : Type 0 where
  pub argument : get_or rows (i * 4 + 1) 0 ≤ get_or rows (i * 4 + 2) 0
  pub value : get_or rows (i * 4 + 2) 0 ≤ get_or rows (i * 4 + 3) 0
  pub within : get_or rows (i * 4 + 3) 0 ≤ used
  pub plain : PlainIf (plain_at rows i) (pair_at values rows i).value

-- n rows that use so many bytes
pub record Rows (values rows : List ℕ) (n used : ℕ) : Type 0 where
  pub filled : used ≤ length values
  pub room : n * 4 ≤ length rows
  pub within : (i : ℕ) → i < n → RowIn values rows i used

-- ---- a row that was got

abbrev pub entry_of : List ℕ → Entry → Pair
entry_of values e = record {
  key = key_of e.key;
  argument = part values e.start e.middle;
  op = operator_of e.operator;
  value = part values e.middle e.end;
}

pub record Got (rows : List ℕ) (i : ℕ) (e : Entry) : Type 0 where
  pub is : (values : List ℕ) → entry_of values e ≡ pair_at values rows i
  pub start : e.start ≡ get_or rows (i * 4 + 1) 0
  pub middle : e.middle ≡ get_or rows (i * 4 + 2) 0
  pub end : e.end ≡ get_or rows (i * 4 + 3) 0
  pub plain : e.plain ≡ plain_at rows i

-- ---- the rows of a rule

-- rows up to the n-th that keep to the values
pub record Segment (values rows : List ℕ) (n : ℕ) : Type 0 where
  pub room : n * 4 ≤ length rows
  pub within : (i : ℕ) → i < n → RowIn values rows i (length values)

pub record EntryIn (values : List ℕ) (e : Entry) : Type 0 where
  pub argument : e.start ≤ e.middle
  pub value : e.middle ≤ e.end
  pub within : e.end ≤ length values
  pub plain : PlainIf e.plain (entry_of values e).value
