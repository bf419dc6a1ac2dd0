-- Document 02, Item 11: what is wanted of a set of files.
-- Assumes nothing.
use Rattle.std.specs.Prelude.{ℕ, zero, suc, ◌+◌, ◌≤◌, ◌≡◌, false, List, [], ◌∷◌, take}
use Rattle.std.specs.Prelude.{Option, None, Some}
use Rattle.lists.specs.Lists.{nth, All}
use Rattle.lists.specs.Bytes.{Bytes}
use Rattle.lists.specs.Checked.{ok, Placed}
use Rattle.lists.specs.Sizes.{fullest_outcome}
use Rattle.rules.specs.Pair.{Rule}
use Rattle.rules.specs.Reading.{reader}
use Rattle.text.specs.Reading.{read_text}
use Rattle.device.specs.Device as D
use Rattle.device.specs.Device.{Device}
use Rattle.outcome.specs.State.{State}
use Rattle.sheet.specs.Sheet as Sheets
use Rattle.sheet.specs.Sheet.{Sheet}
use Rattle.engine.specs.Operations.{decode_for, run}
use Rattle.sets.specs.LaidOut.{LaidOut}
use Rattle.sets.specs.Answer.{Answer}
use Rattle.files.specs.Files.{File, most_files, ok_file, enc_file, one_file, decode_files, doubled, winners}
use Rattle.files.specs.Operation.{files}

-- every set of files within its size has its bytes, and 7 is for other bytes alone: to 32 files, whatever their texts, to 65,535 bytes each
abbrev pub FilesLaidOut : Type 0
FilesLaidOut = LaidOut enc_file ok_file one_file 0 most_files

-- the same files in another order
pub data Reordered : List File → List File → Type 0 where
  nothing : Reordered [] []
  behind : {fs gs : List File} (f : File) → Reordered fs gs → Reordered (f ∷ fs) (f ∷ gs)
  swapped : (f g : File) (fs : List File) → Reordered (f ∷ g ∷ fs) (g ∷ f ∷ fs)
  then : {fs gs hs : List File} → Reordered fs gs → Reordered gs hs → Reordered fs hs

-- what is given back, the file by its name: the numbers, and the target cut at the used length
pub record Given : Type 0 where
  pub number : ℕ
  pub line : ℕ
  pub file : Option (List ℕ)
  pub visited : ℕ
  pub tried : ℕ
  pub left : List ℕ

abbrev pub name_of : Option File → Option (List ℕ)
name_of None = None
name_of (Some f) = Some f.name

-- the name that stands at a position of the lent order, from 1; 0 is no file
abbrev pub name_at : ℕ → List File → Option (List ℕ)
name_at zero fs = None
name_at (suc k) fs = name_of (nth k fs)

-- an answer about these files
abbrev pub told : List File → Answer → Given
told fs a = record {
  number = a.number;
  line = a.line;
  file = name_at a.position fs;
  visited = a.visited;
  tried = a.tried;
  left = take a.used a.bytes;
}

abbrev pub onward : ℕ → Given → Given → Given
onward zero others last = others
onward (suc k) others last = last

-- runs of the texts of files one after another with one sheet, as `spillfinch_run` has them, each from the record that the one before left
-- and up to the first refusal; v rules were visited and w devices tried before
unfoldable pub in_turn : List ℕ → List ℕ → ℕ → ℕ → ℕ → List ℕ → List File → Given
in_turn dev sheet room v w out [] = record { number = 0; line = 0; file = None; visited = v; tried = w; left = out }
in_turn dev sheet room v w out (f ∷ fs) =
    let a = run f.text dev out sheet room in
    onward a.number (in_turn dev sheet room (v + a.visited) (w + a.tried) (take a.used a.bytes) fs)
    (record { number = a.number; line = a.line; file = Some f.name; visited = 0; tried = 0; left = [] })

-- its text is accepted
abbrev pub Accepted : File → Type 0
Accepted f = (rs : List (Placed Rule)) × (read_text reader f.text ≡ ok rs)

pub record FilesInTurn : Type 0 where
  -- where the texts of all files that count are accepted, the set gives what they give one after another
  pub one_by_one : (set : List ℕ) (fs : List File) → decode_files set ≡ Some fs → doubled fs ≡ false → All Accepted (winners fs)
      → (dev out sheet : List ℕ) {d : Device} {s : State} {a : Sheet} → Bytes out → Bytes sheet → D.decode dev ≡ Some d → decode_for d out ≡ Some s → Sheets.decode sheet ≡ Some a
      → (room : ℕ) → fullest_outcome ≤ room → told fs (files set dev out sheet room) ≡ in_turn dev sheet room 0 0 out (winners fs)
  -- the same files lent in another order give the same record, the same counts and the same refusal, of the file of the same name
  pub any_order : (set set' : List ℕ) (fs gs : List File) → decode_files set ≡ Some fs → decode_files set' ≡ Some gs → Reordered fs gs
      → (dev out sheet : List ℕ) (room : ℕ) → told fs (files set dev out sheet room) ≡ told gs (files set' dev out sheet room)
