-- Where the files of a lent set stand, as code reads them.
-- Assumes nothing.
use Rattle.std.specs.Prelude.{ℕ, ◌+◌, ◌≤◌, ◌<◌, ◌≡◌, List, [], map, length, take, drop, get_or}
use Rattle.std.specs.Prelude.{Option, None, Some}
use Rattle.entries.specs.Parse.{Parse, got, bad}
use Rattle.entries.specs.Entry.{one_text}
use Rattle.files.specs.Files.{File, most_files, ok_name, file_of, one_file, decode_files}
use Rattle.set_rows.specs.Places.{bytes_in, Inside}
use Rattle.set_rows.specs.declared.Part.{Part}

-- ---- a name

-- one stands at place p
pub record NameFrom (set : List ℕ) (p : ℕ) : Type 0 where
  pub within : p ≤ length set
  pub name : List ℕ
  pub behind : List ℕ
  pub read : one_text ok_name (drop p set) ≡ got name behind

-- and this is where; what follows it stands at its end
pub record NameIs (set : List ℕ) (p : ℕ) (r : Part) : Type 0 where
  pub start : r.start ≡ p + 1
  pub inside : Inside set r
  pub read : one_text ok_name (drop p set) ≡ got (bytes_in set r) (drop r.end set)

abbrev pub NameReads : List ℕ → ℕ → Option Part → Type 0
NameReads set p (Some r) = NameIs set p r
NameReads set p None = one_text ok_name (drop p set) ≡ bad

-- ---- a file

abbrev pub or_bare : Parse File → File
or_bare (got f r) = f
or_bare bad = file_of 0 [] []

-- the file at place p, one without bytes if none stands there
unfoldable pub file_at : List ℕ → ℕ → File
file_at set p = or_bare (one_file (drop p set))

-- one does
pub record Stands (set : List ℕ) (p : ℕ) : Type 0 where
  pub within : p < length set
  pub behind : List ℕ
  pub read : one_file (drop p set) ≡ got (file_at set p) behind

-- one does up to place q
pub record FileIs (set : List ℕ) (p q : ℕ) : Type 0 where
  pub within : q ≤ length set
  pub stands : Stands set p
  pub read : one_file (drop p set) ≡ got (file_at set p) (drop q set)

abbrev pub FileReads : List ℕ → ℕ → Option ℕ → Type 0
FileReads set p (Some q) = FileIs set p q
FileReads set p None = one_file (drop p set) ≡ bad

-- ---- the set

-- the files that begin at the first n places
abbrev pub files_at : List ℕ → List ℕ → ℕ → List File
files_at set starts n = map (file_at set) (take n starts)

-- each does
abbrev pub AllStand : List ℕ → List ℕ → ℕ → Type 0
AllStand set starts n = (i : ℕ) → i < n → Stands set (get_or starts i 0)

-- n files, and these are the places
pub record FilesIn (set starts : List ℕ) (n : ℕ) : Type 0 where
  pub few : n ≤ most_files
  pub stand : AllStand set starts n
  pub files : decode_files set ≡ Some (files_at set starts n)

abbrev pub FilesAre : List ℕ → List ℕ → Option ℕ → Type 0
FilesAre set starts (Some n) = FilesIn set starts n
FilesAre set starts None = decode_files set ≡ None
