-- Where the parts of a lent set stand, as code reads them.
-- Assumes nothing.
use Rattle.std.specs.Prelude.{ℕ, ◌+◌, ◌-◌, ◌≤◌, ◌≡◌, List, length, take, drop}
use Rattle.std.specs.Prelude.{Option, None, Some}
use Rattle.entries.specs.Parse.{Parse, got, bad}
use Rattle.sets.specs.Sets.{one_long}
use Rattle.sets.specs.Lent.{Lent, one_lent}
use Rattle.set_rows.specs.declared.Part.{Part}
use Rattle.set_rows.specs.declared.LentPlace.{LentPlace}

-- ---- a part

abbrev pub bytes_in : List ℕ → Part → List ℕ
bytes_in set r = take (r.end - r.start) (drop r.start set)

pub record Inside (set : List ℕ) (r : Part) : Type 0 where
  pub rising : r.start ≤ r.end
  pub within : r.end ≤ length set

-- ---- a long text

-- one stands at place p
pub record LongFrom (set : List ℕ) (p : ℕ) : Type 0 where
  pub within : p ≤ length set
  pub text : List ℕ
  pub behind : List ℕ
  pub read : one_long (drop p set) ≡ got text behind

-- and this is where; what follows it stands at its end
pub record LongIs (set : List ℕ) (p : ℕ) (r : Part) : Type 0 where
  pub start : r.start ≡ p + 2
  pub inside : Inside set r
  pub read : one_long (drop p set) ≡ got (bytes_in set r) (drop r.end set)

abbrev pub LongReads : List ℕ → ℕ → Option Part → Type 0
LongReads set p (Some r) = LongIs set p r
LongReads set p None = one_long (drop p set) ≡ bad

-- ---- a record beside its device

abbrev pub lent_in : List ℕ → LentPlace → Lent
lent_in set r = record { device = bytes_in set r.device; outcome = bytes_in set r.outcome }

pub record LentFrom (set : List ℕ) (p : ℕ) : Type 0 where
  pub within : p ≤ length set
  pub lent : Lent
  pub behind : List ℕ
  pub read : one_lent (drop p set) ≡ got lent behind

pub record LentIs (set : List ℕ) (p : ℕ) (r : LentPlace) : Type 0 where
  pub device : Inside set r.device
  pub outcome : Inside set r.outcome
  pub onward : p ≤ r.outcome.end
  pub read : one_lent (drop p set) ≡ got (lent_in set r) (drop r.outcome.end set)

abbrev pub LentReads : List ℕ → ℕ → Option LentPlace → Type 0
LentReads set p (Some r) = LentIs set p r
LentReads set p None = one_lent (drop p set) ≡ bad

-- ---- an entry, whatever it is

-- only that something was read, and what is left behind it
abbrev pub skip : {A : Type 0} → Parse A → Parse (Unit {0})
skip (got a r) = got tt r
skip bad = bad

-- where the one at place p ends
abbrev pub EndReads : (List ℕ → Parse (Unit {0})) → List ℕ → ℕ → Option ℕ → Type 0
EndReads one set p (Some q) = (q ≤ length set) × (one (drop p set) ≡ got tt (drop q set))
EndReads one set p None = one (drop p set) ≡ bad
