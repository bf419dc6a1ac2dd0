-- What reading and running the files of a set leaves.
-- Assumes nothing.
use Rattle.std.specs.Prelude.{ℕ, ◌+◌, ◌≤◌, ◌<◌, ◌≡◌, false, List, length, get_or}
use Rattle.std.specs.Prelude.{Some, Result, Ok, Err}
use Rattle.lists.specs.Checked.{Checked, refused, ok, Placed, line}
use Rattle.lists.specs.Refusal.{Refusal}
use Rattle.refusals.specs.Refusals.{refusal_of}
use Rattle.refusals.specs.declared.LineRefusal.{LineRefusal}
use Rattle.refusals.specs.declared.SetRefusal.{SetRefusal}
use Rattle.text.specs.Reading.{read_text}
use Rattle.text.specs.Running.{next, run_from}
use Rattle.rules.specs.Pair.{Rule}
use Rattle.rules.specs.Reading.{reader}
use Rattle.device.specs.Device.{Device}
use Rattle.device_lookup.specs.declared.Chain.{Chain}
use Rattle.outcome.specs.State.{State}
use Rattle.outcome_target.specs.declared.Layout.{Layout}
use Rattle.sheet.specs.Sheet.{Sheet, decode}
use Rattle.engine.specs.Operations.{engine}
use Rattle.records.specs.Records.{Denotes}
use Rattle.runner.specs.Runs.{Says, Small}
use Rattle.runner.specs.declared.Ended.{Ended}
use Rattle.files.specs.Files.{most_files, doubled}
use Rattle.files.specs.Operation.{FileFault, Loaded, load_all, Left, run_loaded}
use Rattle.file_rows.specs.Places.{FilesIn, files_at}
use Rattle.file_order.specs.Order.{Lies, file_on, chosen, Kept, WinnersAre}

-- files of a set in an order
pub record Ranked (set starts order : List ℕ) (count : ℕ) : Type 0 where
  pub files : ℕ
  pub lies : Lies set starts files
  pub kept : Kept files order count
  pub few : files ≤ most_files
  pub short : count ≤ most_files

-- a fault of the file that stands at k in that order
pub record FaultAt {A : Type 0} (set starts order : List ℕ) (count : ℕ) (c : Checked FileFault A) (why : Refusal) (p n : ℕ) : Type 0 where
  pub k : ℕ
  pub few : k < count
  pub position : p ≡ get_or order k 0 + 1
  pub line : n < 65536
  pub is : c ≡ refused (record { why = why; line = n; file = Some (file_on set starts (get_or order k 0)) })

-- ---- the texts

abbrev pub TextIsJudged : List ℕ → Result (Unit {0}) LineRefusal → Type 0
TextIsJudged text (Ok u) = (rs : List (Placed Rule)) × (read_text reader text ≡ ok rs)
TextIsJudged text (Err f) = (f.line < 65536) × (read_text reader text ≡ refused (line f.line (refusal_of f.refusal)))

abbrev pub Readable : List ℕ → List ℕ → List ℕ → ℕ → Type 0
Readable set starts order count = (ls : List Loaded) × (load_all (chosen set starts order count) ≡ ok ls)

abbrev pub FilesAreRead : List ℕ → List ℕ → List ℕ → ℕ → Result (Unit {0}) SetRefusal → Type 0
FilesAreRead set starts order count (Ok u) = Readable set starts order count
FilesAreRead set starts order count (Err f) = FaultAt set starts order count (load_all (chosen set starts order count)) (refusal_of f.refusal) f.position f.line

-- ---- the runs

-- of an accepted text
pub record TextRuns (text dev : List ℕ) (places : Chain) (sheet x : List ℕ) (lay : Layout) (x' : List ℕ) (o : Result Ended LineRefusal) : Type 0 where
  pub says : (rs : List (Placed Rule)) → read_text reader text ≡ ok rs → (a : Sheet) → decode sheet ≡ Some a → (d : Device) (s : State) → Denotes dev places x lay d s → Says dev places d x' o (run_from (engine a) d next s rs)
  pub small : Small o
  pub length : length x' ≡ length x

abbrev pub AllSay : List ℕ → List ℕ → List ℕ → ℕ → List ℕ → Chain → Device → List ℕ → Result Ended SetRefusal → Checked FileFault Left → Type 0
AllSay set starts order count dev places d x' (Ok e) c = (l : Left) × (c ≡ ok l) × Denotes dev places x' e.layout d l.state × (e.visited ≡ l.visited) × (e.tried ≡ l.tried)
AllSay set starts order count dev places d x' (Err f) c = FaultAt set starts order count c (refusal_of f.refusal) f.position f.line

abbrev pub Counted : Result Ended SetRefusal → Type 0
Counted (Ok e) = (e.visited < 4294967296) × (e.tried < 4294967296)
Counted (Err f) = (f.position < 65536) × (f.line < 65536)

-- of accepted texts
pub record FilesRun (set starts order : List ℕ) (count : ℕ) (dev : List ℕ) (places : Chain) (sheet x : List ℕ) (lay : Layout) (x' : List ℕ) (o : Result Ended SetRefusal) : Type 0 where
  pub says : (ls : List Loaded) → load_all (chosen set starts order count) ≡ ok ls → (a : Sheet) → decode sheet ≡ Some a → (d : Device) (s : State) → Denotes dev places x lay d s
      → AllSay set starts order count dev places d x' o (run_loaded a d s 0 0 ls)
  pub counted : Counted o
  pub length : length x' ≡ length x

-- ---- the set

-- its files, none of them twice, and those that count in their order
pub record Winning (set starts : List ℕ) (n : ℕ) (order : List ℕ) (count : ℕ) : Type 0 where
  pub room : n ≤ length starts
  pub files : FilesIn set starts n
  pub once : doubled (files_at set starts n) ≡ false
  pub winners : WinnersAre set starts n order count
