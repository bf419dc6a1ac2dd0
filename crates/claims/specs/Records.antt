-- The records of a lent set beside the states that they hold.
-- Assumes nothing.
use Rattle.std.specs.Prelude.{ℕ, ◌≤◌, ◌≡◌, List, [], ◌∷◌, length, drop}
use Rattle.std.specs.Prelude.{Some}
use Rattle.lists.specs.Checked.{Checked, refused, ok}
use Rattle.entries.specs.Parse.{got}
use Rattle.outcome.specs.State.{State, decode}
use Rattle.sets.specs.Lent.{Lent, one_lent}
use Rattle.sets.specs.Answer.{Fault}
use Rattle.contest.specs.Operation.{states_of}

-- ---- a record

-- it holds a state
abbrev pub Held : List ℕ → Type 0
Held rec = (n : ℕ) × (s : State) × (decode n rec ≡ Some s)

abbrev pub OfRecord : List ℕ → (State → Type 0) → Type 0
OfRecord rec P = (n : ℕ) (s : State) → decode n rec ≡ Some s → P s

-- ---- a set

abbrev pub or_none : Checked Fault (List State) → List State
or_none (refused f) = []
or_none (ok ss) = ss

-- the states of a set, none where it is refused
unfoldable pub states_in : List ℕ → List State
states_in set = or_none (states_of set)

-- a record at the front, and what follows it
pub record First (bs : List ℕ) (s : State) (z : List ℕ) : Type 0 where
  pub chain : ℕ
  pub lent : Lent
  pub read : one_lent bs ≡ got lent z
  pub held : decode chain lent.outcome ≡ Some s

-- the records of states, one behind the other
abbrev pub Stand : List ℕ → List State → Type 0
Stand bs [] = Unit {0}
Stand bs (s ∷ ss) = (z : List ℕ) × First bs s z × Stand z ss

-- from a place of a set on
pub record Standing (set : List ℕ) (p : ℕ) (ss : List State) : Type 0 where
  pub within : p ≤ length set
  pub records : Stand (drop p set) ss

abbrev pub StandsAt : List ℕ → ℕ → Type 0
StandsAt set p = (s : State) × (ss : List State) × Standing set p (s ∷ ss)

abbrev pub OfFirst : List ℕ → ℕ → (State → List State → Type 0) → Type 0
OfFirst set p P = (s : State) (ss : List State) → Standing set p (s ∷ ss) → P s ss
