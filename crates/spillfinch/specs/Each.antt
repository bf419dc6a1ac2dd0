-- The runs of a text over the records of a set, of the exported functions: what a call of `spillfinch_run_each` writes for each record is what a call
-- of `spillfinch_run` writes for it alone.
-- Assumes nothing.
use Rattle.std.specs.Prelude.{ℕ, ◌≡◌, List, length}
use Rattle.std.specs.Prelude.{Some}
use Rattle.lists.specs.Lists.{nth}
use Rattle.lists.specs.Bytes.{Bytes}
use Rattle.lists.specs.Sizes.{fullest_outcome}
use Rattle.sets.specs.Lent.{Lent, decode_lent}
use Rattle.numbers.specs.Numbers.{most_numbers}
use Rattle.each.specs.Wanted.{part_of}
use Rattle.spillfinch.specs.Exports.{RunGives, EachGives}
use Rattle.spillfinch.specs.Joined.{number_in}
use Rattle.spillfinch.specs.Contested.{count_in}

-- a call with a text and a sheet that does not refuse its set
pub record EachCall (text sheet : List ℕ) : Type 0 where
  pub set : List ℕ
  pub written : List ℕ
  pub targets : List ℕ
  pub answers : List ℕ
  pub bytes : Bytes set
  pub gives : EachGives text set sheet (length targets) (length answers) written targets answers
  pub accepted : number_in written ≡ 0

-- what it writes for the k-th record
abbrev pub target_in : {text sheet : List ℕ} → EachCall text sheet → ℕ → List ℕ
target_in c k = part_of fullest_outcome k c.targets

abbrev pub answer_in : {text sheet : List ℕ} → EachCall text sheet → ℕ → List ℕ
answer_in c k = part_of most_numbers k c.answers

-- the records of the set are counted, and the target and the numbers of each are what a call for it alone writes, refused or not
pub record RunsAlone (text sheet : List ℕ) (c : EachCall text sheet) : Type 0 where
  pub lents : List Lent
  pub held : decode_lent c.set ≡ Some lents
  pub counted : count_in c.written ≡ length lents
  pub alone : (k : ℕ) (l : Lent) → nth k lents ≡ Some l → RunGives text l.device l.outcome sheet fullest_outcome (answer_in c k) (target_in c k)

pub record EachRuns : Type 0 where
  pub runs_alone : (text sheet : List ℕ) → Bytes sheet → (c : EachCall text sheet) → RunsAlone text sheet c
  -- a pair of records has the same target and numbers wherever it stands, in any set: another order gives the same ones in that order
  pub anywhere : (text sheet : List ℕ) → Bytes sheet → (c d : EachCall text sheet) (ls ms : List Lent) → decode_lent c.set ≡ Some ls → decode_lent d.set ≡ Some ms
      → (j k : ℕ) (l : Lent) → nth j ls ≡ Some l → nth k ms ≡ Some l → (target_in c j ≡ target_in d k) × (answer_in c j ≡ answer_in d k)
