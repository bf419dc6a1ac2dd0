-- What an assignment to SYMLINK leaves, name by name.
-- Assumes nothing.
use Rattle.std.specs.Prelude.{ℕ, ◌≡◌, List, Result}
use Rattle.lists.specs.Checked.{Checked, ok, ◌>>=◌, ◌>>◌, require}
use Rattle.lists.specs.Refusal.{Refusal, link_bad}
use Rattle.lists.specs.Sizes.{most_links}
use Rattle.rules.specs.Key.{Op}
use Rattle.rules.specs.Pair.{Pair}
use Rattle.device_lookup.specs.declared.Chain.{Chain}
use Rattle.outcome.specs.Content.{ok_name}
use Rattle.outcome.specs.State.{State}
use Rattle.outcome.specs.Change.{with_links, shut_links}
use Rattle.outcome_target.specs.declared.Layout.{Layout}
use Rattle.engine.specs.Assign.{Escape, kept, closing, change_entry, change_links, linked}
use Rattle.records.specs.Records.{ChangesBeside}
use Rattle.refusals.specs.declared.Refusal.{Refusal as Refused}

-- one name
abbrev pub one_link : Op → List ℕ → State → Checked Refusal State
one_link o x s = (require (ok_name x) link_bad >> change_entry o most_links x s.links) >>= λ ls. ok (with_links s ls)

-- all names
abbrev pub the_links : Op → List (List ℕ) → State → Checked Refusal State
the_links o xs s = change_links o xs s.links >>= λ ls. ok (with_links s ls)

-- all names, as the operator begins and ends
abbrev pub all_links : Op → List (List ℕ) → State → Checked Refusal State
all_links o xs s = change_links o xs (kept o s.links) >>= λ ls. ok (closing o shut_links (with_links s ls))

abbrev pub LinksAssigned : Op → Escape → List ℕ → List ℕ → Chain → ℕ → List ℕ → Layout → List ℕ → Result Layout Refused → Type 0
LinksAssigned o e v dev places place t lay t' r =
    (p : Pair) → p.op ≡ o → p.value ≡ v → ChangesBeside (λ d s. linked d place p (record { state = s; escape = e })) dev places t lay t' r
