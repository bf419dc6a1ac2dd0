-- The header and the numbers in front of a device are read back, and what was read was so written.
-- Assumes nothing.
use Prim.Native.Nat.{ℕ}
use mathlib.Core.Path.{◌≡◌, refl, ap}
use mathlib.Core.List.{List, [], ◌∷◌, ◌++◌}
use lib.ListN.{length}
use Rattle.lists.specs.Bytes.{Bytes}
use Rattle.bits.specs.Fields.{packed, fields_at}
use Rattle.bits.proofs.Fields.{Fit, length-packed}
use Rattle.entries.specs.Parse.{got}
use Rattle.entries.specs.Entry.{exactly}
use Rattle.entries.proofs.Heads as heads
use Rattle.entries.proofs.Heads.{number_of, head_read}
use Rattle.entries.proofs.Entries as entries
use Rattle.device.specs.Head.{Head, fields, header, head_of, Lens, lens_fields, lens_bytes, lens_of}

-- ---- the header

pub header-length : (h : Head) → length (header h) ≡ 7
unfolding header
header-length h = length-packed (fields h) 7 refl

pub header-first : (h : Head) (r : List ℕ) → exactly 7 (header h ++ r) ≡ got (header h) r
unfolding header
header-first h r = entries.head_there (fields h) 7 r refl

pub head_there : (h : Head) → Fit (fields h) → head_of (header h) ≡ h
unfolding header
head_there h f =
    let e : fields_at (packed (fields h)) 0 (4 ∷ 4 ∷ 3 ∷ 1 ∷ 12 ∷ 20 ∷ 6 ∷ 6 ∷ []) ≡ fields h = head_read (fields h) 7 refl f in
    λ i.
    record {
      edition = ap (number_of 0) e i;
      above = ap (number_of 1) e i;
      action = ap (number_of 2) e i;
      node = ap (number_of 3) e i;
      major = ap (number_of 4) e i;
      minor = ap (number_of 5) e i;
      properties = ap (number_of 6) e i;
      unused = ap (number_of 7) e i;
    }

pub head_back : (bs : List ℕ) → Bytes bs → length bs ≡ 7 → header (head_of bs) ≡ bs
unfolding header
head_back bs b l = heads.head_back bs (4 ∷ 4 ∷ 3 ∷ 1 ∷ 12 ∷ 20 ∷ 6 ∷ 6 ∷ []) 7 refl l b

-- ---- the numbers in front of a device

pub lens_length : (n : Lens) → length (lens_bytes n) ≡ 4
unfolding lens_bytes
lens_length n = length-packed (lens_fields n) 4 refl

pub lens_first : (n : Lens) (r : List ℕ) → exactly 4 (lens_bytes n ++ r) ≡ got (lens_bytes n) r
unfolding lens_bytes
lens_first n r = entries.head_there (lens_fields n) 4 r refl

pub lens_there : (n : Lens) → Fit (lens_fields n) → lens_of (lens_bytes n) ≡ n
unfolding lens_bytes
lens_there n f =
    let e : fields_at (packed (lens_fields n)) 0 (9 ∷ 6 ∷ 6 ∷ 5 ∷ 6 ∷ []) ≡ lens_fields n = head_read (lens_fields n) 4 refl f in
    λ i.
    record {
      path = ap (number_of 0) e i;
      subsystem = ap (number_of 1) e i;
      driver = ap (number_of 2) e i;
      attributes = ap (number_of 3) e i;
      unused = ap (number_of 4) e i;
    }

pub lens_back : (bs : List ℕ) → Bytes bs → length bs ≡ 4 → lens_bytes (lens_of bs) ≡ bs
unfolding lens_bytes
lens_back bs b l = heads.head_back bs (9 ∷ 6 ∷ 6 ∷ 5 ∷ 6 ∷ []) 4 refl l b
