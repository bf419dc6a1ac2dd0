-- Document 01, Packed records: the device record's first 7 bytes, and the 4 bytes in front of each device.
-- Assumes nothing.
use Rattle.std.specs.Prelude.{ℕ, List, [], ◌∷◌}
use Rattle.bits.specs.Bits.{number_at}
use Rattle.bits.specs.Fields.{Field, packed}

-- the header's fields, in their order; `above` is the chain's length less one
pub record Head : Type 0 where
  pub edition : ℕ
  pub above : ℕ
  pub action : ℕ
  pub node : ℕ
  pub major : ℕ
  pub minor : ℕ
  pub properties : ℕ
  pub unused : ℕ

abbrev pub fields : Head → List Field
fields h =
    (4, h.edition)
    ∷ (4, h.above)
    ∷ (3, h.action)
    ∷ (1, h.node)
    ∷ (12, h.major)
    ∷ (20, h.minor)
    ∷ (6, h.properties)
    ∷ (6, h.unused)
    ∷ []

unfoldable pub header : Head → List ℕ
header h = packed (fields h)

-- the fields that stand in these bytes
abbrev pub head_of : List ℕ → Head
head_of bs =
    record {
      edition = number_at bs 0 4;
      above = number_at bs 4 4;
      action = number_at bs 8 3;
      node = number_at bs 11 1;
      major = number_at bs 12 12;
      minor = number_at bs 24 20;
      properties = number_at bs 44 6;
      unused = number_at bs 50 6;
    }

-- the numbers in front of one device of the chain
pub record Lens : Type 0 where
  pub path : ℕ
  pub subsystem : ℕ
  pub driver : ℕ
  pub attributes : ℕ
  pub unused : ℕ

abbrev pub lens_fields : Lens → List Field
lens_fields n = (9, n.path) ∷ (6, n.subsystem) ∷ (6, n.driver) ∷ (5, n.attributes) ∷ (6, n.unused) ∷ []

unfoldable pub lens_bytes : Lens → List ℕ
lens_bytes n = packed (lens_fields n)

abbrev pub lens_of : List ℕ → Lens
lens_of bs =
    record {
      path = number_at bs 0 9;
      subsystem = number_at bs 9 6;
      driver = number_at bs 15 6;
      attributes = number_at bs 21 5;
      unused = number_at bs 26 6;
    }
