-- Where the devices and the wanted links of a lent set stand, as code reads them.
-- Assumes nothing.
use Rattle.std.specs.Prelude.{ℕ, ◌≤◌, ◌≡◌, List, length, drop}
use Rattle.std.specs.Prelude.{Option, None, Some}
use Rattle.entries.specs.Parse.{got, bad}
use Rattle.set_rows.specs.Places.{bytes_in, Inside}
use Rattle.plan.specs.Operations.{Wish, one_wish}
use Rattle.plan_rows.specs.declared.WishPlace.{WishPlace}

abbrev pub wish_in : List ℕ → WishPlace → Wish
wish_in set r = record { device = bytes_in set r.device; link = bytes_in set r.link }

-- a device and its link stand at place p
pub record WishFrom (set : List ℕ) (p : ℕ) : Type 0 where
  pub within : p ≤ length set
  pub wish : Wish
  pub behind : List ℕ
  pub read : one_wish (drop p set) ≡ got wish behind

-- and this is where; what follows them stands at the link's end
pub record WishIs (set : List ℕ) (p : ℕ) (r : WishPlace) : Type 0 where
  pub device : Inside set r.device
  pub link : Inside set r.link
  pub read : one_wish (drop p set) ≡ got (wish_in set r) (drop r.link.end set)

abbrev pub WishReads : List ℕ → ℕ → Option WishPlace → Type 0
WishReads set p (Some r) = WishIs set p r
WishReads set p None = one_wish (drop p set) ≡ bad
