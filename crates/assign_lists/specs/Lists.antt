-- What an assignment to TAG and to RUN leaves.
-- Assumes nothing.
use Rattle.std.specs.Prelude.{ℕ, ◌≤◌, ◌≡◌, Bool, true, false, List, Result}
use Rattle.lists.specs.Lists.{is_empty}
use Rattle.lists.specs.Checked.{Checked, ok}
use Rattle.lists.specs.Refusal.{Refusal}
use Rattle.lists.specs.Sizes.{most_runs}
use Rattle.rules.specs.Key.{Op}
use Rattle.rules.specs.Pair.{Pair, is_builtin}
use Rattle.outcome.specs.State.{State, Run}
use Rattle.outcome.specs.Edits.{append}
use Rattle.outcome_target.specs.declared.Layout.{Layout}
use Rattle.outcome_target.specs.Held.{Held}
use Rattle.outcome_lists.specs.Lists.{run_of}
use Rattle.engine.specs.Assign.{tagged, queued}
use Rattle.records.specs.Records.{Says, Changes}
use Rattle.refusals.specs.declared.Refusal.{Refusal as Refused}

-- of each pair with this operator and value
abbrev pub OfPair : Op → List ℕ → (Pair → Type 0) → Type 0
OfPair o v P = (p : Pair) → p.op ≡ o → p.value ≡ v → P p

abbrev pub TagAssigned : Op → List ℕ → List ℕ → Layout → List ℕ → Result Layout Refused → Type 0
TagAssigned o v t lay t' r = OfPair o v (λ p. Changes (tagged p) t lay t' r)

-- the runs with one more behind them, by its parts
abbrev pub queued_runs : Bool → ℕ → List ℕ → List Run → Checked Refusal (List Run)
queued_runs builtin place v rs = elim (is_empty v) [ true ↦ ok rs | false ↦ append most_runs (run_of builtin place v) rs ]

-- beside a chain that has the place
abbrev pub RunAssigned : Op → Bool → ℕ → List ℕ → List ℕ → Layout → List ℕ → Result Layout Refused → Type 0
RunAssigned o builtin place v t lay t' r =
    OfPair o v (λ p. is_builtin p ≡ builtin → (n : ℕ) (s : State) → Held n t lay s → place ≤ n → Says n t' r (queued place p s))
