-- Where the devices of a record begin, and a device that lies at a place of a record.
-- Assumes nothing.
use Rattle.std.specs.Prelude.{ℕ, ◌+◌, ◌≡◌, true, List, [], ◌∷◌, ◌++◌, length, drop}
use Rattle.lists.specs.Lists.{cat}
use Rattle.entries.specs.Entry.{enc_prop}
use Rattle.device.specs.Device.{Member, Device, chain, ok_member, enc_member}

-- the places at which some devices begin, the first of them at p
abbrev pub starts_from : ℕ → List Member → List ℕ
starts_from p [] = []
starts_from p (m ∷ ms) = p ∷ starts_from (p + length (enc_member m)) ms

-- the chain begins behind the header and the properties
abbrev pub starts : Device → List ℕ
starts d = starts_from (7 + length (cat enc_prop d.properties)) (chain d)

-- a sound device whose bytes begin at a place
pub record Lies (l : List ℕ) (at : ℕ) (m : Member) : Type 0 where
  pub sound : ok_member m ≡ true
  pub rest : List ℕ
  pub bytes : drop at l ≡ enc_member m ++ rest
