-- What code leaves of the run list: one entry, entries one behind the other, the whole list.
-- Assumes nothing.
use Rattle.std.specs.Prelude.{ℕ, ◌+◌, ◌≤◌, ◌≡◌, Bool, List, [], ◌∷◌}
use Rattle.std.specs.Prelude.{Option, None, Some}
use Rattle.lists.specs.Lists.{cat}
use Rattle.lists.specs.Checked.{Checked, refused, ok}
use Rattle.lists.specs.Refusal.{Refusal, substitution_long}
use Rattle.bits.specs.Fields.{Field}
use Rattle.bits.specs.Fields.{bit}
use Rattle.engine.specs.Operations.{Command, enc_command, run_list}
use Rattle.insertion.specs.Append.{Placed}

-- ---- heads, by their numbers

abbrev pub head_fields : Bool → ℕ → List Field
head_fields builtin len = (1, bit builtin) ∷ (10, len) ∷ (5, 0) ∷ []

abbrev pub count_fields : ℕ → List Field
count_fields n = (5, n) ∷ (3, 0) ∷ []

-- ---- one entry

-- at most 514 bytes
abbrev pub Short : ℕ → Option ℕ → Type 0
Short at (Some k) = k ≤ at + 514
Short at None = Unit {0}

-- a command with this text stands from `at` on; or there is no such text
abbrev pub Made : Bool → Checked Refusal (List ℕ) → List ℕ → ℕ → Option ℕ → List ℕ → Type 0
Made builtin o l at (Some k) l' = (x : List ℕ) × (o ≡ ok x) × Placed (enc_command (record { builtin = builtin; text = x })) l at k l'
Made builtin o l at None l' = o ≡ refused substitution_long

-- ---- entries, and the list

abbrev pub Listed : Checked Refusal (List Command) → List ℕ → ℕ → Option ℕ → List ℕ → Type 0
Listed o l at (Some k) l' = (cs : List Command) × (o ≡ ok cs) × Placed (cat enc_command cs) l at k l'
Listed o l at None l' = o ≡ refused substitution_long

-- the entries that are left, put behind those that stand there, are all
abbrev pub Leads : Checked Refusal (List Command) → List ℕ → ℕ → Checked Refusal (List Command) → List ℕ → ℕ → Type 0
Leads o l at p l' k = (r : Option ℕ) (m : List ℕ) → Listed p l' k r m → Listed o l at r m

abbrev pub Written : Checked Refusal (List Command) → List ℕ → Option ℕ → List ℕ → Type 0
Written o l (Some k) l' = (cs : List Command) × (o ≡ ok cs) × Placed (run_list cs) l 0 k l'
Written o l None l' = o ≡ refused substitution_long
