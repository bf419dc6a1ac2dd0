-- The devices of a lent set beside the links that they are to have.
-- Assumes nothing.
use Rattle.std.specs.Prelude.{ℕ, ◌≤◌, ◌≡◌, List, [], ◌∷◌, length, drop, get_or}
use Rattle.std.specs.Prelude.{Some, Result, Ok, Err}
use Rattle.lists.specs.Checked.{Checked, refused, ok}
use Rattle.entries.specs.Parse.{got}
use Rattle.device.specs.Device as D
use Rattle.refusals.specs.declared.SetRefusal.{SetRefusal}
use Rattle.set_answers.specs.Answers.{fault_of}
use Rattle.sets.specs.Answer.{Fault}
use Rattle.plan.specs.Plan.{Naming}
use Rattle.plan.specs.Operations.{most_wishes, Wish, one_wish, namings}

-- ---- from a place on

abbrev pub wish_of : Naming → Wish
wish_of n = record { device = n.bytes_lent; link = n.link }

-- a naming at the front, and what follows it
pub record First (bs : List ℕ) (n : Naming) (z : List ℕ) : Type 0 where
  pub read : one_wish bs ≡ got (wish_of n) z
  pub sound : D.decode n.bytes_lent ≡ Some n.device

-- namings, one behind the other
abbrev pub Stand : List ℕ → List Naming → Type 0
Stand bs [] = Unit {0}
Stand bs (n ∷ ns) = (z : List ℕ) × First bs n z × Stand z ns

-- from a place of a set on
pub record Standing (set : List ℕ) (p : ℕ) (ns : List Naming) : Type 0 where
  pub within : p ≤ length set
  pub stand : Stand (drop p set) ns

-- ---- the set

abbrev pub or_none : Checked Fault (List Naming) → List Naming
or_none (refused f) = []
or_none (ok ns) = ns

-- the namings of a set, none where it is refused
unfoldable pub namings_in : List ℕ → List Naming
namings_in set = or_none (namings set)

-- those of a set that is not refused
pub record Whole (set : List ℕ) : Type 0 where
  pub some : 1 ≤ length set
  pub few : length (namings_in set) ≤ most_wishes
  pub counted : get_or set 0 0 ≡ length (namings_in set)
  pub held : namings set ≡ ok (namings_in set)
  pub standing : Standing set 1 (namings_in set)

abbrev pub JudgedIs : List ℕ → Result (Unit {0}) SetRefusal → Type 0
JudgedIs set (Ok u) = Whole set
JudgedIs set (Err f) = (namings set ≡ refused (fault_of f)) × (f.position ≤ most_wishes) × (f.line ≡ 0)
