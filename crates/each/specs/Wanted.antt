-- What is wanted of the runs of a set: nothing of one is seen by another.
-- Assumes nothing.
use Rattle.std.specs.Prelude.{ℕ, ◌*◌, ◌≡◌, List, length, take, drop}
use Rattle.std.specs.Prelude.{Some}
use Rattle.lists.specs.Lists.{nth}
use Rattle.lists.specs.Bytes.{Bytes}
use Rattle.lists.specs.Sizes.{fullest_outcome}
use Rattle.sets.specs.Lent.{Lent, decode_lent}
use Rattle.numbers.specs.Numbers.{most_numbers, numbers}
use Rattle.each.specs.Each.{run_of, each_runs, Each, each_answer}

-- the k-th of parts of n bytes or numbers each
abbrev pub part_of : ℕ → ℕ → List ℕ → List ℕ
part_of n k xs = take n (drop (k * n) xs)

-- the parts of the k-th record are what a run of that record alone gives
pub record Alone (text sheet : List ℕ) (l : Lent) (k : ℕ) (targets answers : List ℕ) : Type 0 where
  pub target : part_of fullest_outcome k targets ≡ (run_of text sheet l).bytes
  pub answer : part_of most_numbers k answers ≡ numbers (run_of text sheet l)

-- of all records of a set
pub record EachAlone (text set sheet : List ℕ) (e : Each) : Type 0 where
  pub lents : List Lent
  pub held : decode_lent set ≡ Some lents
  pub counted : e.own.count ≡ length lents
  pub alone : (k : ℕ) (l : Lent) → nth k lents ≡ Some l → Alone text sheet l k e.own.bytes e.answers

pub record Wanted : Type 0 where
  -- where the set is not refused
  pub each_alone : (text set sheet : List ℕ) (room places : ℕ) → Bytes set → Bytes sheet → (each_answer text set sheet room places).own.number ≡ 0
      → EachAlone text set sheet (each_answer text set sheet room places)
  -- a pair of records gives the same wherever it stands: any other order of a set gives the same in that order
  pub anywhere : (text sheet : List ℕ) (ls ms : List Lent) (j k : ℕ) → nth j ls ≡ nth k ms → nth j (each_runs text sheet ls) ≡ nth k (each_runs text sheet ms)
