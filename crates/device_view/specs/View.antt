-- What a view of a device answers about the chain that its record has.
-- Assumes nothing.
use Rattle.std.specs.Prelude.{ℕ, zero, suc, ◌+◌, ◌≡◌, Bool, List, ltb, length}
use Rattle.std.specs.Prelude.{Option, None, Some}
use Rattle.lists.specs.Lists.{nth}
use Rattle.device.specs.Device.{Member, Device, chain, member_at, enc_member}
use Rattle.device.specs.Places.{starts, Lies}
use Rattle.device_lookup.specs.Lookup.{Standing, OfDevice, OfMember}

-- where the device at a place of the chain begins, from place 1
abbrev pub start_at : ℕ → Device → Option ℕ
start_at zero d = None
start_at (suc n) d = nth n (starts d)

-- the device at a place of the chain, and the offset at which it begins
pub record AtPlace (d : Device) (n at : ℕ) (m : Member) : Type 0 where
  pub member : member_at n d ≡ Some m
  pub start : start_at n d ≡ Some at

-- of the device at a place of the chain
abbrev pub OfPlace : List ℕ → ℕ → (Member → Type 0) → Type 0
OfPlace l n P = OfDevice l (λ d. (m : Member) → member_at n d ≡ Some m → P m)

-- whether the device at an offset has a parent: whether the chain goes on behind its place
abbrev pub HasParent : List ℕ → ℕ → Bool → Type 0
HasParent l at r = OfDevice l (λ d. (n : ℕ) (m : Member) → AtPlace d n at m → r ≡ ltb n (length (chain d)))

-- a device that stands at an offset and is the one at a place of the chain
pub record Stands (l : List ℕ) (d : Device) (n at : ℕ) (m : Member) : Type 0 where
  pub place : AtPlace d n at m
  pub lies : Lies l at m
  pub standing : Standing l at

-- where the parent of the device at an offset begins: where that device ends. It is the device at the next place of the chain
abbrev pub ParentAt : List ℕ → ℕ → ℕ → Type 0
ParentAt l at r =
    OfMember l at (λ m. r ≡ at + length (enc_member m))
    × OfDevice l (λ d. (n : ℕ) (m p : Member) → AtPlace d n at m → member_at (suc n) d ≡ Some p → Stands l d (suc n) r p)
