-- Document 02, Item 11: what a set of files gives: 1, 7, 21, then the texts of the files that count, 3, 4, 6, and the runs of those files.
-- Assumes nothing.
use Rattle.std.specs.Prelude.{ℕ, ◌+◌, true, false, not, List, [], ◌∷◌, leb}
use Rattle.std.specs.Prelude.{Option, None, Some}
use Rattle.lists.specs.Checked.{Checked, refused, ok, ◌>>=◌, ◌>>◌, require, found, Placed, line}
use Rattle.lists.specs.Refusal.{Refusal, target_short, set_bad, file_twice, device_bad, outcome_bad, sheet_bad}
use Rattle.lists.specs.Sizes.{fullest_outcome}
use Rattle.device.specs.Device as D
use Rattle.device.specs.Device.{Device}
use Rattle.outcome.specs.State as O
use Rattle.outcome.specs.State.{State}
use Rattle.rules.specs.Pair.{Rule}
use Rattle.rules.specs.Reading.{reader}
use Rattle.text.specs.Reading.{read_text}
use Rattle.text.specs.Running.{next, run_from}
use Rattle.sheet.specs.Sheet as Sheets
use Rattle.sheet.specs.Sheet.{Sheet}
use Rattle.engine.specs.Operations.{decode_for, engine}
use Rattle.sets.specs.Answer.{of_set, Answer, refusal, acceptance}
use Rattle.files.specs.Files.{File, decode_files, doubled, winners, position_from}

-- a refusal, and the file if a text or a run is refused
pub record FileFault : Type 0 where
  pub why : Refusal
  pub line : ℕ
  pub file : Option File

abbrev pub of_none : Refusal → FileFault
of_none f = record { why = f; line = 0; file = None }

-- a refusal within a file is one of that file
abbrev pub in_file : {A : Type 0} → File → Checked (Placed Refusal) A → Checked FileFault A
in_file f (refused (line n w)) = refused (record { why = w; line = n; file = Some f })
in_file f (ok a) = ok a

-- a file whose text was read
pub record Loaded : Type 0 where
  pub file : File
  pub rules : List (Placed Rule)

-- one text after the other, each read to its end by itself: its labels and its limits are its own
unfoldable pub load_all : List File → Checked FileFault (List Loaded)
load_all [] = ok []
load_all (f ∷ fs) = do
  rs ← in_file f (read_text reader f.text)
  ls ← load_all fs
  ok (record { file = f; rules = rs } ∷ ls)

-- what the files leave that ran
pub record Left : Type 0 where
  pub state : State
  pub visited : ℕ
  pub tried : ℕ

-- the rules of each file from what the files before it left, all with one answer sheet; v rules were visited and w devices tried before
unfoldable pub run_loaded : Sheet → Device → State → ℕ → ℕ → List Loaded → Checked FileFault Left
run_loaded a d s v w [] = ok (record { state = s; visited = v; tried = w })
run_loaded a d s v w (l ∷ ls) =
    in_file l.file (run_from (engine a) d next s l.rules) >>= λ h. run_loaded a d h.state (v + h.visited) (w + h.tried) ls

-- the files of a set: 21, the texts, 3, 4, 6, the runs
unfoldable pub run_files : List File → List ℕ → List ℕ → List ℕ → Checked FileFault Left
run_files fs dev out sheet = do
  require (not (doubled fs)) (of_none file_twice)
  ls ← load_all (winners fs)
  d ← found (D.decode dev) (of_none device_bad)
  s ← found (decode_for d out) (of_none outcome_bad)
  a ← found (Sheets.decode sheet) (of_none sheet_bad)
  run_loaded a d s 0 0 ls

-- where a file stands in the lent order, from 1; 0 for none
abbrev pub position_of : List File → Option File → ℕ
position_of fs None = 0
position_of fs (Some f) = position_from 1 f fs

abbrev pub files_answer : ℕ → List File → Checked FileFault Left → Answer
files_answer room fs (refused f) = refusal room (record { why = f.why; position = position_of fs f.file; line = f.line })
files_answer room fs (ok l) = acceptance room l.visited l.tried 0 (O.encode l.state)

abbrev pub decoded : ℕ → List ℕ → List ℕ → List ℕ → Option (List File) → Answer
decoded room dev out sheet None = refusal room (of_set set_bad)
decoded room dev out sheet (Some fs) = files_answer room fs (run_files fs dev out sheet)

-- the operation: 1, then 7
unfoldable pub files : List ℕ → List ℕ → List ℕ → List ℕ → ℕ → Answer
files set dev out sheet room =
    elim (leb fullest_outcome room) [ true ↦ decoded room dev out sheet (decode_files set) | false ↦ refusal room (of_set target_short) ]
