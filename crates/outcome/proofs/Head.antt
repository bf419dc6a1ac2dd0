-- The header is read back, what was read was so written, and a field put anew gives the header with that field.
-- Assumes nothing.
use Prim.Native.Nat.{ℕ, ◌<◌}
use mathlib.Core.Path.{◌≡◌, refl, sym, ap, ◌∙◌}
use mathlib.Core.List.{List, [], ◌∷◌, ◌++◌}
use native.Mathlib.Omega.{arith}
use lib.ListN.{length}
use lib.Dec.{eqb}
use Rattle.lists.specs.Bytes.{Bytes}
use Rattle.bits.specs.Bits.{put_at}
use Rattle.bits.specs.Fields.{Field, packed, fields_at}
use Rattle.bits.proofs.Numbers.{number_lt}
use Rattle.bits.proofs.Fields as F
use Rattle.bits.proofs.Fields.{length-packed, bit_small, eqb-bit, bit-flag}
use Rattle.entries.specs.Parse.{got}
use Rattle.entries.specs.Entry.{exactly}
use Rattle.entries.proofs.Heads as heads
use Rattle.entries.proofs.Heads.{number_of, head_read, with_number, place_of, width_of, head_put}
use Rattle.entries.proofs.Entries as entries
use Rattle.outcome.specs.Head.{Head, fields, header, head_of}

-- ---- numbers

-- each number fits its field
pub record Fit (h : Head) : Type 0 where
  pub edition : h.edition < 16
  pub owner : h.owner < 64
  pub group : h.group < 64
  pub mode_set : h.mode_set < 2
  pub mode : h.mode < 4096
  pub priority : h.priority < 4294967296
  pub links : h.links < 32
  pub properties : h.properties < 64
  pub tags : h.tags < 32
  pub runs : h.runs < 32
  pub output : h.output < 1024
  pub watch : h.watch < 4
  pub unused : h.unused < 16

fit_counts : (h : Head) → Fit h → F.Fit ((5, h.links) ∷ (6, h.properties) ∷ (5, h.tags) ∷ (5, h.runs) ∷ (10, h.output) ∷ (2, h.watch) ∷ (4, h.unused) ∷ [])
fit_counts h f = (f.links, (f.properties, (f.tags, (f.runs, (f.output, (f.watch, (f.unused, tt)))))))

fit_numbers : (h : Head) → Fit h
    → F.Fit ((6, h.owner) ∷ (6, h.group) ∷ (1, h.mode_set) ∷ (12, h.mode) ∷ (32, h.priority) ∷ (5, h.links) ∷ (6, h.properties) ∷ (5, h.tags) ∷ (5, h.runs) ∷ (10, h.output) ∷ (2, h.watch) ∷ (4, h.unused) ∷ [])
fit_numbers h f = (f.owner, (f.group, (f.mode_set, (f.mode, (f.priority, fit_counts h f)))))

fit_fields : (h : Head) → Fit h → F.Fit (fields h)
fit_fields h f =
    let c = h.closed in
    (f.edition, (bit_small c.links, (bit_small c.tags, (bit_small c.runs, (bit_small c.owner, (bit_small c.group, (bit_small c.mode, fit_numbers h f)))))))

-- what was read fits
pub head_fits : (bs : List ℕ) → Fit (head_of bs)
head_fits bs =
    record {
      edition = number_lt bs 0 4;
      owner = number_lt bs 10 6;
      group = number_lt bs 16 6;
      mode_set = number_lt bs 22 1;
      mode = number_lt bs 23 12;
      priority = number_lt bs 35 32;
      links = number_lt bs 67 5;
      properties = number_lt bs 72 6;
      tags = number_lt bs 78 5;
      runs = number_lt bs 83 5;
      output = number_lt bs 88 10;
      watch = number_lt bs 98 2;
      unused = number_lt bs 100 4;
    }

-- ---- the header

pub header-length : (h : Head) → length (header h) ≡ 13
unfolding header
header-length h = length-packed (fields h) 13 refl

-- it is the first 13 bytes
pub header-first : (h : Head) (r : List ℕ) → exactly 13 (header h ++ r) ≡ got (header h) r
unfolding header
header-first h r = entries.head_there (fields h) 13 r refl

-- reading its fields gives them
pub head_there : (h : Head) → Fit h → head_of (header h) ≡ h
unfolding header
head_there h f =
    let e : fields_at (packed (fields h)) 0 (4 ∷ 1 ∷ 1 ∷ 1 ∷ 1 ∷ 1 ∷ 1 ∷ 6 ∷ 6 ∷ 1 ∷ 12 ∷ 32 ∷ 5 ∷ 6 ∷ 5 ∷ 5 ∷ 10 ∷ 2 ∷ 4 ∷ []) ≡ fields h = head_read (fields h) 13 refl (fit_fields h f) in
    let c = h.closed in
    λ i.
    record {
      edition = ap (number_of 0) e i;
      closed = record {
        links = (ap (λ (l : List Field). eqb (number_of 1 l) 1) e ∙ eqb-bit c.links) i;
        tags = (ap (λ (l : List Field). eqb (number_of 2 l) 1) e ∙ eqb-bit c.tags) i;
        runs = (ap (λ (l : List Field). eqb (number_of 3 l) 1) e ∙ eqb-bit c.runs) i;
        owner = (ap (λ (l : List Field). eqb (number_of 4 l) 1) e ∙ eqb-bit c.owner) i;
        group = (ap (λ (l : List Field). eqb (number_of 5 l) 1) e ∙ eqb-bit c.group) i;
        mode = (ap (λ (l : List Field). eqb (number_of 6 l) 1) e ∙ eqb-bit c.mode) i;
      };
      owner = ap (number_of 7) e i;
      group = ap (number_of 8) e i;
      mode_set = ap (number_of 9) e i;
      mode = ap (number_of 10) e i;
      priority = ap (number_of 11) e i;
      links = ap (number_of 12) e i;
      properties = ap (number_of 13) e i;
      tags = ap (number_of 14) e i;
      runs = ap (number_of 15) e i;
      output = ap (number_of 16) e i;
      watch = ap (number_of 17) e i;
      unused = ap (number_of 18) e i;
    }

-- the fields that are read are those that are written
pub same-fields : (bs : List ℕ) → fields (head_of bs) ≡ fields_at bs 0 (4 ∷ 1 ∷ 1 ∷ 1 ∷ 1 ∷ 1 ∷ 1 ∷ 6 ∷ 6 ∷ 1 ∷ 12 ∷ 32 ∷ 5 ∷ 6 ∷ 5 ∷ 5 ∷ 10 ∷ 2 ∷ 4 ∷ [])
same-fields bs =
    let h = head_of bs in
    λ i.
    (4, h.edition)
    ∷ (1, bit-flag bs 4 i)
    ∷ (1, bit-flag bs 5 i)
    ∷ (1, bit-flag bs 6 i)
    ∷ (1, bit-flag bs 7 i)
    ∷ (1, bit-flag bs 8 i)
    ∷ (1, bit-flag bs 9 i)
    ∷ (6, h.owner)
    ∷ (6, h.group)
    ∷ (1, h.mode_set)
    ∷ (12, h.mode)
    ∷ (32, h.priority)
    ∷ (5, h.links)
    ∷ (6, h.properties)
    ∷ (5, h.tags)
    ∷ (5, h.runs)
    ∷ (10, h.output)
    ∷ (2, h.watch)
    ∷ (4, h.unused)
    ∷ []

-- writing the fields that were read gives the bytes
pub head_back : (bs : List ℕ) → Bytes bs → length bs ≡ 13 → header (head_of bs) ≡ bs
unfolding header
head_back bs b l = ap packed (same-fields bs) ∙ heads.head_back bs (4 ∷ 1 ∷ 1 ∷ 1 ∷ 1 ∷ 1 ∷ 1 ∷ 6 ∷ 6 ∷ 1 ∷ 12 ∷ 32 ∷ 5 ∷ 6 ∷ 5 ∷ 5 ∷ 10 ∷ 2 ∷ 4 ∷ []) 13 refl l b

-- writing the i-th field in place gives the header with that field
pub header-put : (h g : Head) (i v : ℕ) (r : List ℕ) → i < 19 → fields g ≡ with_number i v (fields h) → Bytes r
    → put_at (header h ++ r) (place_of i (fields h)) (width_of i (fields h)) v ≡ header g ++ r
unfolding header
header-put h g i v r k e b = head_put (fields h) i v 13 r k refl b ∙ ap (λ (l : List Field). packed l ++ r) (sym e)

-- the count of links, for one
links-put : (h g : Head) (v : ℕ) (r : List ℕ) → fields g ≡ with_number 12 v (fields h) → Bytes r → put_at (header h ++ r) 67 5 v ≡ header g ++ r
links-put h g v r e b = header-put h g 12 v r (omega arith) e b
