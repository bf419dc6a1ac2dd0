-- What a rule is judged on, as the code has it, and what is answered of it.
-- Assumes nothing.
use Rattle.std.specs.Prelude.{ℕ, ◌-◌, ◌≤◌, ◌≡◌, Bool, List, length}
use Rattle.std.specs.Prelude.{Some, Result}
use Rattle.rules.specs.Key.{Op}
use Rattle.table.specs.Table.{pairs_from}
use Rattle.device.specs.Device.{Member, Device, chain, decode}
use Rattle.device.specs.Places.{Lies}
use Rattle.outcome.specs.State.{State}
use Rattle.engine.specs.Match.{judged, some_matches, nearest, matched, place_or, tried}
use Rattle.device_lookup.specs.Lookup.{Chained}
use Rattle.device_lookup.specs.declared.Chain.{Chain}
use Rattle.outcome_target.specs.Held.{Held}
use Rattle.outcome_target.specs.declared.Layout.{Layout}
use Rattle.outcome_target.specs.declared.Texts.{Texts}
use Rattle.outcome_target.specs.Texts.{texts_in}
use Rattle.matching.specs.Answers.{place_in, tried_in, near_of, Asks}
use Rattle.matching.specs.declared.Matched.{Matched}

-- a device record of which a device begins at a place, and a target that holds a state
pub record Judging (dev : List ℕ) (at : ℕ) (t : List ℕ) (lay : Layout) : Type 0 where
  pub device : Device
  pub decoded : decode dev ≡ Some device
  pub member : Member
  pub lies : Lies dev at member
  pub n : ℕ
  pub state : State
  pub held : Held n t lay state

-- a device record with the places of its chain, and a target that holds a state
pub record Begun (dev : List ℕ) (places : Chain) (t : List ℕ) (lay : Layout) : Type 0 where
  pub device : Device
  pub decoded : decode dev ≡ Some device
  pub chained : Chained device places
  pub n : ℕ
  pub state : State
  pub held : Held n t lay state

-- links or tags
abbrev pub ListHolds : Texts → Op → List ℕ → List ℕ → Layout → Bool → Type 0
ListHolds list op value t lay r = (n : ℕ) (s : State) → Held n t lay s → r ≡ judged op (some_matches value (texts_in list s))

-- the pairs from the i-th row up to the n-th
abbrev pub NearestOf : List ℕ → List ℕ → ℕ → ℕ → List ℕ → Chain → List ℕ → Layout → Result ℕ ℕ → Type 0
NearestOf v r i n dev places t lay o =
    ((x : Begun dev places t lay) → place_in o ≡ nearest 1 (chain x.device) (pairs_from v r i (n - i)))
    × (tried_in o ≡ place_or places.len (place_in o))
    × (tried_in o ≤ places.len)

-- a rule: the matched device, and the devices tried
abbrev pub PlacedOf : List ℕ → List ℕ → ℕ → ℕ → List ℕ → Chain → List ℕ → Layout → Result ℕ ℕ → Type 0
PlacedOf v r i n dev places t lay o =
    ((x : Begun dev places t lay)
    → (place_in o ≡ matched x.device x.state (pairs_from v r i (n - i))) × (tried_in o ≡ tried x.device (pairs_from v r i (n - i)) x.state))
    × (tried_in o ≤ places.len)

-- and whether programs are still to be asked
abbrev pub MatchedOf : List ℕ → List ℕ → ℕ → ℕ → List ℕ → Chain → List ℕ → Layout → Result Matched ℕ → Type 0
MatchedOf v r i n dev places t lay o = PlacedOf v r i n dev places t lay (near_of o) × Asks (pairs_from v r i (n - i)) o
