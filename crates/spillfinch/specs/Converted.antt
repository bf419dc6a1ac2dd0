-- Document 02, Item 5, of the exported functions: a record that is converted and converted back is the first one again.
-- Assumes nothing.
use Rattle.std.specs.Prelude.{ℕ, ◌≤◌, ◌≡◌, List, take}
use Rattle.lists.specs.Bytes.{Bytes}
use Rattle.lists.specs.Sizes.{fullest_outcome, fullest_old}
use Rattle.spillfinch.specs.Exports.{NewerGives, OlderGives}
use Rattle.spillfinch.specs.Joined.{number_in, used_in}

-- the record that a call leaves: the target cut at the used length
abbrev pub left_in : List ℕ → List ℕ → List ℕ
left_in written target = take (used_in written) target

-- an accepted call that leaves this record
abbrev pub Leaves : List ℕ → List ℕ → List ℕ → Type 0
Leaves written target record' = (number_in written ≡ 0) × (left_in written target ≡ record')

-- of any two calls beside the same device, the first one accepted, the second one lent what the first one left and room enough
pub record ThereAndBack : Type 0 where
  pub old_new_old : (dev out : List ℕ) (room room' : ℕ) (w t w' t' : List ℕ) → Bytes out → NewerGives dev out room w t → number_in w ≡ 0
      → fullest_old ≤ room' → OlderGives dev (left_in w t) room' w' t' → Leaves w' t' out
  pub new_old_new : (dev out : List ℕ) (room room' : ℕ) (w t w' t' : List ℕ) → Bytes out → OlderGives dev out room w t → number_in w ≡ 0
      → fullest_outcome ≤ room' → NewerGives dev (left_in w t) room' w' t' → Leaves w' t' out
