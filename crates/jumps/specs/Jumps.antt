-- Where a GOTO goes, by the numbers of rules.
-- Assumes nothing.
use Rattle.std.specs.Prelude.{ℕ, ◌+◌, ◌-◌, ◌*◌, ◌≤◌, ◌<◌, ◌≡◌, Bool, true, false, List, get_or}
use Rattle.std.specs.Prelude.{Option, None, Some, Result, Ok, Err}
use Rattle.lists.specs.Checked.{refused, ok, line}
use Rattle.lists.specs.Refusal.{label_missing}
use Rattle.text.specs.Reading.{has_label, settle}
use Rattle.rules.specs.Pair.{label_of, goto_of}
use Rattle.rules.specs.Reading.{reader}
use Rattle.table.specs.Table.{rules_from}
use Rattle.table.specs.Rules.{pairs_of, mark_of}

-- the i-th rule has this label
abbrev pub labelled : List ℕ → List ℕ → List ℕ → List ℕ → ℕ → Bool
labelled v r t g i = has_label g (label_of (pairs_of v r t i))

-- no rule from the i-th up to the j-th has it
abbrev pub NoneTo : List ℕ → List ℕ → List ℕ → List ℕ → ℕ → ℕ → Type 0
NoneTo v r t g i j = (k : ℕ) → i ≤ k → k < j → labelled v r t g k ≡ false

-- the first rule from the i-th on, of n, that has it
pub record Goes (v r t g : List ℕ) (i n j : ℕ) : Type 0 where
  pub from : i ≤ j
  pub within : j < n
  pub has : labelled v r t g j ≡ true
  pub others : NoneTo v r t g i j

-- that rule, if there is one
abbrev pub FoundIs : List ℕ → List ℕ → List ℕ → List ℕ → ℕ → ℕ → Option ℕ → Type 0
FoundIs v r t g i n None = NoneTo v r t g i n
FoundIs v r t g i n (Some j) = Goes v r t g i n j

-- ---- the jump of a rule

-- as a number: one more than the rule that it goes to, or 0
abbrev pub Resolved : List ℕ → List ℕ → List ℕ → ℕ → ℕ → Option (List ℕ) → ℕ → Type 0
Resolved v r t i n None k = k ≡ 0
Resolved v r t i n (Some g) k = (0 < k) × Goes v r t g (i + 1) n (k - 1)

-- or the line of the rule, where it goes nowhere
abbrev pub JumpIs : List ℕ → List ℕ → List ℕ → ℕ → ℕ → Result (Option ℕ) ℕ → Type 0
JumpIs v r t i n (Ok k) = Resolved v r t i n (goto_of (pairs_of v r t i)) (mark_of k) × (mark_of k ≤ n)
JumpIs v r t i n (Err k) =
    (k ≡ get_or t (i * 4) 0) × (k < 65536) × ((g : List ℕ) × (goto_of (pairs_of v r t i) ≡ Some g) × NoneTo v r t g (i + 1) n)

-- all jumps of the rules up to the i-th
abbrev pub Jumps : List ℕ → List ℕ → List ℕ → ℕ → List ℕ → ℕ → Type 0
Jumps v r t n js i = (k : ℕ) → k < i → Resolved v r t k n (goto_of (pairs_of v r t k)) (get_or js k 0)

-- 19 is that of the rules from the i-th on, and the jumps of those before are put
abbrev pub UpTo : List ℕ → List ℕ → List ℕ → ℕ → List ℕ → ℕ → Type 0
UpTo v r t n js i = (settle reader (rules_from v r t 0 n) ≡ settle reader (rules_from v r t i (n - i))) × Jumps v r t n js i

abbrev pub SettledIs : List ℕ → List ℕ → List ℕ → ℕ → List ℕ → Result (Unit {0}) ℕ → Type 0
SettledIs v r t n js (Ok _) = (settle reader (rules_from v r t 0 n) ≡ ok 0) × Jumps v r t n js n
SettledIs v r t n js (Err k) = (k < 65536) × (settle reader (rules_from v r t 0 n) ≡ refused (line k label_missing))
