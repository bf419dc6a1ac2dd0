-- The target holds the record of a state and zeros behind it; what an edit leaves.
-- Assumes nothing.
use Rattle.std.specs.Prelude.{ℕ, ◌≤◌, ◌≡◌, List, length}
use Rattle.std.specs.Prelude.{Option, None, Some}
use Rattle.lists.specs.Checked.{Checked, refused, ok}
use Rattle.lists.specs.Refusal.{Refusal, list_full}
use Rattle.lists.specs.Sizes.{fullest_outcome}
use Rattle.splice.specs.Moves.{padded}
use Rattle.outcome.specs.State.{State, Good, encode, decode}
use Rattle.outcome_target.specs.Layout.{layout_of}
use Rattle.outcome_target.specs.declared.Layout.{Layout}

-- the target l holds the record of s, which is sound beside a chain of n devices
pub record Held (n : ℕ) (l : List ℕ) (lay : Layout) (s : State) : Type 0 where
  pub good : Good n s
  pub bytes : l ≡ padded (length l) (encode s)
  pub layout : lay ≡ layout_of s
  pub room : fullest_outcome ≤ length l

abbrev pub Holds : List ℕ → Layout → Type 0
Holds l lay = (n : ℕ) × (s : State) × Held n l lay s

-- what a copy leaves of a sound record
abbrev pub Loaded : List ℕ → List ℕ → Type 0
Loaded bs l = (n : ℕ) (s : State) → decode n bs ≡ Some s → fullest_outcome ≤ length l → Held n l (layout_of s) s

-- an edit that is never refused
abbrev pub Changed : (State → State) → List ℕ → Layout → List ℕ → Layout → Type 0
Changed op l lay l' lay' = (n : ℕ) (s : State) → Held n l lay s → Held n l' lay' (op s)

-- an edit that finds no room for one more entry where there is no new layout: what becomes of a part, and the state with that part anew
abbrev pub Left : {A : Type 0} → ℕ → (A → State) → Checked Refusal A → List ℕ → Option Layout → Type 0
Left {A} n put c l (Some lay) = (x : A) × (c ≡ ok x) × Held n l lay (put x)
Left n put c l None = c ≡ refused list_full

abbrev pub Edited : {A : Type 0} → (State → A → State) → (State → Checked Refusal A) → List ℕ → Layout → List ℕ → Option Layout → Type 0
Edited put op l lay l' r = (n : ℕ) (s : State) → Held n l lay s → Left n (put s) (op s) l' r

-- the same of an entry whose soundness depends on the chain's length
abbrev pub EditedIf : {A : Type 0} → (ℕ → Type 0) → (State → A → State) → (State → Checked Refusal A) → List ℕ → Layout → List ℕ → Option Layout → Type 0
EditedIf sound put op l lay l' r = (n : ℕ) (s : State) → Held n l lay s → sound n → Left n (put s) (op s) l' r

abbrev pub HoldsIf : (ℕ → Type 0) → List ℕ → Layout → Type 0
HoldsIf sound l lay = (n : ℕ) × (s : State) × Held n l lay s × sound n
