-- Document 01, Packed records, and document 02, Item 5: the outcome record's first 13 bytes.
-- Assumes nothing.
use Rattle.std.specs.Prelude.{ℕ, Bool, List, [], ◌∷◌}
use Rattle.bits.specs.Bits.{number_at}
use Rattle.bits.specs.Fields.{Field, packed, bit, flag_at}

-- which keys are closed, in the record's order
pub record Closed : Type 0 where
  pub links : Bool
  pub tags : Bool
  pub runs : Bool
  pub owner : Bool
  pub group : Bool
  pub mode : Bool

-- the fields, in their order
pub record Head : Type 0 where
  pub edition : ℕ
  pub closed : Closed
  pub owner : ℕ
  pub group : ℕ
  pub mode_set : ℕ
  pub mode : ℕ
  pub priority : ℕ
  pub links : ℕ
  pub properties : ℕ
  pub tags : ℕ
  pub runs : ℕ
  -- Item 5: the output's length, watch, and bits that are zero
  pub output : ℕ
  pub watch : ℕ
  pub unused : ℕ

abbrev pub fields : Head → List Field
fields h =
    (4, h.edition)
    ∷ (1, bit h.closed.links)
    ∷ (1, bit h.closed.tags)
    ∷ (1, bit h.closed.runs)
    ∷ (1, bit h.closed.owner)
    ∷ (1, bit h.closed.group)
    ∷ (1, bit h.closed.mode)
    ∷ (6, h.owner)
    ∷ (6, h.group)
    ∷ (1, h.mode_set)
    ∷ (12, h.mode)
    ∷ (32, h.priority)
    ∷ (5, h.links)
    ∷ (6, h.properties)
    ∷ (5, h.tags)
    ∷ (5, h.runs)
    ∷ (10, h.output)
    ∷ (2, h.watch)
    ∷ (4, h.unused)
    ∷ []

-- its bytes
abbrev pub header_size : ℕ
header_size = 13

unfoldable pub header : Head → List ℕ
header h = packed (fields h)

abbrev pub closed_of : List ℕ → Closed
closed_of bs =
    record {
      links = flag_at bs 4;
      tags = flag_at bs 5;
      runs = flag_at bs 6;
      owner = flag_at bs 7;
      group = flag_at bs 8;
      mode = flag_at bs 9;
    }

-- the fields that stand in these bytes
abbrev pub head_of : List ℕ → Head
head_of bs =
    record {
      edition = number_at bs 0 4;
      closed = closed_of bs;
      owner = number_at bs 10 6;
      group = number_at bs 16 6;
      mode_set = number_at bs 22 1;
      mode = number_at bs 23 12;
      priority = number_at bs 35 32;
      links = number_at bs 67 5;
      properties = number_at bs 72 6;
      tags = number_at bs 78 5;
      runs = number_at bs 83 5;
      output = number_at bs 88 10;
      watch = number_at bs 98 2;
      unused = number_at bs 100 4;
    }
