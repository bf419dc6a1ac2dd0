-- What reading a head gives: the head that the definitions read, with the bounds of its numbers.
-- Assumes nothing.
use Rattle.std.specs.Prelude.{ℕ, ◌+◌, ◌<◌, ◌≡◌, List, take, drop}
use Rattle.device.specs.Head as D
use Rattle.device.specs.Head.{head_of, lens_of}
use Rattle.device_head.specs.declared.Head.{Head}
use Rattle.device_head.specs.declared.Lens.{Lens}

-- the header that a struct holds
abbrev pub head_in : Head → D.Head
head_in r =
    record {
      edition = r.edition;
      above = r.above;
      action = r.action;
      node = r.node;
      major = r.major;
      minor = r.minor;
      properties = r.properties;
      unused = r.unused;
    }

-- the numbers in front of a device that a struct holds
abbrev pub lens_in : Lens → D.Lens
lens_in r = record { path = r.path; subsystem = r.subsystem; driver = r.driver; attributes = r.attributes; unused = r.unused }

pub record HeadRead (l : List ℕ) (r : Head) : Type 0 where
  pub is : head_in r ≡ head_of (take 7 l)
  pub above : r.above < 16
  pub properties : r.properties < 64

pub record LensRead (l : List ℕ) (at : ℕ) (r : Lens) : Type 0 where
  pub is : lens_in r ≡ lens_of (take 4 (drop at l))
  pub path : r.path < 512
  pub subsystem : r.subsystem < 64
  pub driver : r.driver < 64
  pub attributes : r.attributes < 32

-- ---- the path of the device that begins at a place

abbrev pub path_len : List ℕ → ℕ → ℕ
path_len l at = (lens_of (take 4 (drop at l))).path

abbrev pub path_in : List ℕ → ℕ → List ℕ
path_in l at = take (path_len l at) (drop (at + 4) l)
