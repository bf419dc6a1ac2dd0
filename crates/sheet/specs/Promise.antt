-- Document 02, Item 6: what is wanted of the bytes of a sheet.
-- Assumes nothing.
use Rattle.std.specs.Prelude.{ℕ, ◌+◌, ◌*◌, ◌≤◌, ◌≡◌, ◌↔◌, List, length}
use Rattle.std.specs.Prelude.{None, Some}
use Rattle.lists.specs.Bytes.{Bytes}
use Rattle.lists.specs.Sizes.{most_sheet}
use Rattle.sheet.specs.Sheet.{Sheet, encode, decode, Good, texts}

-- bytes that are a packing of a sheet
pub record Packing (bs : List ℕ) (rs : Sheet) : Type 0 where
  pub good : Good rs
  pub packs : encode rs ≡ bs
  pub short : length bs ≤ most_sheet

pub record SheetPacked : Type 0 where
  -- a sheet is read back from its packing, and what is read was packed so
  pub there : (rs : Sheet) → Good rs → length (encode rs) ≤ most_sheet → decode (encode rs) ≡ Some rs
  pub back : (bs : List ℕ) (rs : Sheet) → Bytes bs → decode bs ≡ Some rs → Packing bs rs
  -- 6 is the answer to bytes that pack no sheet, and to no others
  pub refused_exactly : (bs : List ℕ) → Bytes bs → (decode bs ≡ None) ↔ ((rs : Sheet) → Packing bs rs → ⊥)
  -- every sheet that Item 6 allows, with 8 bytes and 8 for each entry counted beside its texts, has a packing
  pub packs_every : (rs : Sheet) → Good rs → 8 + (8 * length rs + texts rs) ≤ most_sheet → Packing (encode rs) rs
