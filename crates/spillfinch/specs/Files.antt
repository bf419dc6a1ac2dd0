-- Document 02, Item 11, of the exported functions: what calls of `spillfinch_run_files` write, beside calls of `spillfinch_run` for the files
-- that count, and beside a call for the same files in another order.
-- Assumes nothing.
use Rattle.std.specs.Prelude.{ℕ, ◌+◌, ◌≤◌, ◌≡◌, false, List, [], ◌∷◌, map, length}
use Rattle.std.specs.Prelude.{None, Some}
use Rattle.lists.specs.Lists.{All}
use Rattle.lists.specs.Bytes.{Bytes}
use Rattle.lists.specs.Sizes.{fullest_outcome}
use Rattle.sheet.specs.Sheet.{Sheet, decode}
use Rattle.files.specs.Files.{File, decode_files, doubled, winners}
use Rattle.files.specs.Promise.{Reordered, Given, name_at, onward}
use Rattle.spillfinch.specs.Exports.{FilesGives}
use Rattle.spillfinch.specs.Joined.{number_in, line_in, visited_in, tried_in, Checked, Call, back, InTurn, Sound}
use Rattle.spillfinch.specs.Converted.{left_in}
use Rattle.spillfinch.specs.Contested.{position_in}

-- what a call for these files gives back, the file that is refused by its name: the numbers, and the target cut at the used length
abbrev pub told : List File → List ℕ → List ℕ → Given
told fs written target =
    record {
      number = number_in written;
      line = line_in written;
      file = name_at (position_in written) fs;
      visited = visited_in written;
      tried = tried_in written;
      left = left_in written target;
    }

-- what calls of `spillfinch_run` for the texts of files give, one after another: what the last one left, with the counts of all, or its refusal
-- with the name of its file; v rules were visited and w devices tried before
abbrev pub together : ℕ → ℕ → List ℕ → List File → List Call → Given
together v w out [] cs = record { number = 0; line = 0; file = None; visited = v; tried = w; left = out }
together v w out (f ∷ fs) [] = record { number = 0; line = 0; file = None; visited = v; tried = w; left = out }
together v w out (f ∷ fs) (c ∷ cs) =
    let b = back c in
    onward b.number (together (v + b.visited) (w + b.tried) b.left fs cs)
    (record { number = b.number; line = b.line; file = Some f.name; visited = 0; tried = 0; left = [] })

abbrev pub texts_of : List File → List (List ℕ)
texts_of fs = map (λ (f : File). f.text) fs

pub record FilesRun : Type 0 where
  -- where the check accepts the texts of all files that count, a call for the set gives what calls for those texts, in the order of the names
  -- and each from what the one before left, give together
  pub one_by_one : (set : List ℕ) (fs : List File) → decode_files set ≡ Some fs → doubled fs ≡ false → All Checked (texts_of (winners fs))
      → (dev out sheet : List ℕ) (a : Sheet) → Sound dev out → Bytes sheet → decode sheet ≡ Some a
      → (written target : List ℕ) → fullest_outcome ≤ length target → FilesGives set dev out sheet (length target) written target
      → (cs : List Call) → InTurn dev sheet out (texts_of (winners fs)) cs → told fs written target ≡ together 0 0 out (winners fs) cs
  -- a call for the same files in another order gives the same record, the same counts and the same refusal, of the file of the same name
  pub any_order : (set set' : List ℕ) (fs gs : List File) → decode_files set ≡ Some fs → decode_files set' ≡ Some gs → Reordered fs gs
      → (dev out sheet : List ℕ) (room : ℕ) (written target written' target' : List ℕ)
      → FilesGives set dev out sheet room written target → FilesGives set' dev out sheet room written' target'
      → told fs written target ≡ told gs written' target'
