-- What an assignment to OWNER, GROUP or MODE leaves.
-- Assumes nothing.
use Rattle.std.specs.Prelude.{ℕ, ◌≡◌, true, List, Result, Ok, Err}
use Rattle.lists.specs.Checked.{Checked, refused, ok, ◌>>=◌}
use Rattle.lists.specs.Refusal.{Refusal, owner_bad}
use Rattle.rules.specs.Key.{Op}
use Rattle.rules.specs.Pair.{Pair}
use Rattle.device.specs.Device.{Device}
use Rattle.device_lookup.specs.declared.Chain.{Chain}
use Rattle.outcome.specs.State.{State}
use Rattle.outcome.specs.Change.{with_owner, with_group, with_mode, shut_owner, shut_group, shut_mode}
use Rattle.outcome_target.specs.declared.Layout.{Layout}
use Rattle.engine.specs.Assign.{closing, owner_in, mode_in, owned, grouped, moded}
use Rattle.records.specs.Records.{ChangesBeside}
use Rattle.refusals.specs.declared.Refusal.{Refusal as Refused}
use Rattle.refusals.specs.declared.Refusal.TheVariants.{OwnerBad}
use Rattle.outcome.specs.Content.{ok_owner}
use Rattle.assign_owner.specs.declared.Single.{Single}
use Rattle.assign_owner.specs.declared.Single.TheVariants.{Owner, Group, Mode}

-- the text of an owner or a group judged
abbrev pub OwnerJudged : List ℕ → Result (Unit {0}) Refused → Type 0
OwnerJudged t (Ok u) = (owner_in t ≡ ok t) × (ok_owner t ≡ true)
OwnerJudged t (Err f) = (owner_in t ≡ refused owner_bad) × (f ≡ OwnerBad)

-- a substituted text judged and set
abbrev pub owner_set : Single → Op → List ℕ → State → Checked Refusal State
owner_set Owner o t s = owner_in t >>= λ x. ok (closing o shut_owner (with_owner s x))
owner_set Group o t s = owner_in t >>= λ x. ok (closing o shut_group (with_group s x))
owner_set Mode o t s = mode_in t >>= λ m. ok (closing o shut_mode (with_mode s m))

-- the whole assignment
abbrev pub single : Single → Device → ℕ → Pair → State → Checked Refusal State
single Owner d place p s = owned d place p s
single Group d place p s = grouped d place p s
single Mode d place p s = moded d place p s

abbrev pub AssignedBeside : Single → Op → List ℕ → List ℕ → Chain → ℕ → List ℕ → Layout → List ℕ → Result Layout Refused → Type 0
AssignedBeside key o v dev places place t lay t' r =
    (p : Pair) → p.op ≡ o → p.value ≡ v → ChangesBeside (λ d s. single key d place p s) dev places t lay t' r
