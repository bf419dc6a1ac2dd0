-- What the readers of a sound device record require and answer.
-- Assumes nothing.
use Rattle.std.specs.Prelude.{ℕ, ◌+◌, ◌≤◌, ◌≡◌, List, [], length, take, drop}
use Rattle.std.specs.Prelude.{Option, None, Some, Result, Ok, Err}
use Rattle.lists.specs.Sizes.{most_device}
use Rattle.rows.specs.declared.Found.{Found}
use Rattle.device.specs.Device.{Member, Device, chain, decode}
use Rattle.device.specs.Places.{starts, Lies}
use Rattle.device_lookup.specs.declared.Chain.{Chain}
use Rattle.device_lookup.specs.declared.Parts.{Parts}
use Rattle.device_lookup.specs.declared.Span.{Span}

-- ---- what is required

-- a record that the check took
abbrev pub Sound : List ℕ → Type 0
Sound l = (d : Device) × (decode l ≡ Some d)

-- a device begins at a place of it
pub record Standing (l : List ℕ) (at : ℕ) : Type 0 where
  pub member : Member
  pub lies : Lies l at member
  pub short : length l ≤ most_device

-- ---- what is answered

-- of the device that a record holds
abbrev pub OfDevice : List ℕ → (Device → Type 0) → Type 0
OfDevice l P = (d : Device) → decode l ≡ Some d → P d

-- of the device that begins at a place
abbrev pub OfMember : List ℕ → ℕ → (Member → Type 0) → Type 0
OfMember l at P = (m : Member) → Lies l at m → P m

-- where the parts of a device begin that begins at a place
pub record Placed (at : ℕ) (m : Member) (r : Parts) : Type 0 where
  pub path : r.path ≡ at + 4
  pub subsystem : r.subsystem ≡ r.path + length m.path
  pub driver : r.driver ≡ r.subsystem + length m.subsystem
  pub attributes : r.attributes ≡ r.driver + length m.driver
  pub count : r.count ≡ length m.attributes

-- in their order, in a record of n bytes
pub record Ordered (r : Parts) (n : ℕ) : Type 0 where
  pub path : r.path ≤ r.subsystem
  pub subsystem : r.subsystem ≤ r.driver
  pub driver : r.driver ≤ r.attributes
  pub within : r.attributes ≤ n

-- the place of what a search found
abbrev pub value_of : Result Found ℕ → Option Span
value_of (Ok f) = Some (record { start = f.value; len = f.len })
value_of (Err p) = None

-- a value that is there is a part of the record; absent and empty stay apart
abbrev pub Says : List ℕ → Option Span → Option (List ℕ) → Type 0
Says l (Some s) o = o ≡ Some (take s.len (drop s.start l))
Says l None o = o ≡ None

-- in a record of n bytes
abbrev pub Within : Option Span → ℕ → Type 0
Within (Some s) n = s.start + s.len ≤ n
Within None n = Unit {0}

-- that part of the record; what is missing reads as empty
abbrev pub part_in : List ℕ → Option Span → List ℕ
part_in l (Some s) = take s.len (drop s.start l)
part_in l None = []

-- how many devices there are, and where each begins
pub record Chained (d : Device) (r : Chain) : Type 0 where
  pub len : r.len ≡ length (chain d)
  pub at : take r.len r.at ≡ starts d
