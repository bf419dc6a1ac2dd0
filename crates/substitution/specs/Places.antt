-- Where inserted text comes from, in the records that are lent.
-- Assumes nothing.
use Rattle.std.specs.Prelude.{ℕ, zero, suc, ◌≤◌, ◌≡◌, List, length, get_or, drop}
use Rattle.std.specs.Prelude.{Option, None, Some}
use Rattle.entries.specs.Parse.{got, many}
use Rattle.entries.specs.Entry.{one_prop}
use Rattle.device.specs.Device.{Member, decode}
use Rattle.device.specs.Places.{Lies}
use Rattle.device_lookup.specs.Lookup.{Standing}
use Rattle.device_lookup.specs.declared.Chain.{Chain}
use Rattle.outcome_readers.specs.Readers.{OutputIs}
use Rattle.engine.specs.Substitute.{Source, matched_in}
use Rattle.substitution.specs.declared.Places.{Places}

-- ---- the matched device

-- it begins where code has it
abbrev pub MatchedIs : List ℕ → Option ℕ → Option Member → Type 0
MatchedIs dev (Some p) o = (m : Member) × (o ≡ Some m) × Lies dev p m
MatchedIs dev None o = o ≡ None

abbrev pub MatchedStands : List ℕ → Option ℕ → Type 0
MatchedStands dev (Some p) = Standing dev p
MatchedStands dev None = Unit {0}

-- of the matched device, or of none
abbrev pub OfMatched : List ℕ → Option ℕ → (Option Member → Type 0) → Type 0
OfMatched dev matched P = (o : Option Member) → MatchedIs dev matched o → P o

-- ---- all that is inserted

-- the device record and the outcome record are those of a source
pub record From (dev rec : List ℕ) (p : Places) (s : Source) : Type 0 where
  pub device : decode dev ≡ Some s.device
  pub event : Lies dev p.event s.device.event
  pub matched : MatchedIs dev p.matched (matched_in s)
  pub inside : p.properties ≤ length rec
  pub rest : List ℕ
  pub properties : many one_prop p.count (drop p.properties rec) ≡ got s.properties rest
  pub output : OutputIs rec s.output

abbrev pub Sourced : List ℕ → List ℕ → Places → Type 0
Sourced dev rec p = (s : Source) × From dev rec p s

-- of the source that the records have
abbrev pub OfSource : List ℕ → List ℕ → Places → (Source → Type 0) → Type 0
OfSource dev rec p P = (s : Source) → From dev rec p s → P s

-- the places of the devices by the chain's; place 0 is none
abbrev pub places_in : Chain → ℕ → ℕ → ℕ → Places
places_in chain zero at n = record { event = get_or chain.at 0 0; matched = None; properties = at; count = n }
places_in chain (suc k) at n = record { event = get_or chain.at 0 0; matched = Some (get_or chain.at k 0); properties = at; count = n }
