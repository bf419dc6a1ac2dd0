-- The files of a lent set by their numbers, and those that count in an order of numbers.
-- Assumes nothing.
use Rattle.std.specs.Prelude.{ℕ, suc, ◌+◌, ◌≤◌, ◌<◌, ◌≡◌, List, [], ◌∷◌, map, length, take, get_or}
use Rattle.lists.specs.Lists.{pick, All}
use Rattle.files.specs.Files.{File, loses, before, insert, winners}
use Rattle.file_rows.specs.Places.{file_at, files_at, AllStand}

-- n files begin at the places
pub record Lies (set starts : List ℕ) (n : ℕ) : Type 0 where
  pub room : n ≤ length starts
  pub stand : AllStand set starts n

-- file i
abbrev pub file_on : List ℕ → List ℕ → ℕ → File
file_on set starts i = file_at set (get_or starts i 0)

-- the files of the first k numbers
abbrev pub chosen : List ℕ → List ℕ → List ℕ → ℕ → List File
chosen set starts order k = map (file_on set starts) (take k order)

-- those are numbers of the n files
pub record Kept (n : ℕ) (order : List ℕ) (k : ℕ) : Type 0 where
  pub room : k ≤ length order
  pub numbers : All (λ (i : ℕ). i < n) (take k order)

-- where `insert` puts a file
abbrev pub place_in : File → List File → ℕ
place_in f [] = 0
place_in f (g ∷ gs) = pick (before f.name g.name) 0 (suc (place_in f gs))

-- file i was taken in, if it counts
pub record TakenIs (set starts : List ℕ) (n : ℕ) (order : List ℕ) (k i : ℕ) (order' : List ℕ) (k' : ℕ) : Type 0 where
  pub few : k' ≤ k + 1
  pub kept : Kept n order' k'
  pub files : chosen set starts order' k'
      ≡ pick (loses (files_at set starts n) (file_on set starts i)) (chosen set starts order k) (insert (file_on set starts i) (chosen set starts order k))

-- k of the n files count, and these are their numbers
pub record WinnersAre (set starts : List ℕ) (n : ℕ) (order : List ℕ) (k : ℕ) : Type 0 where
  pub few : k ≤ n
  pub kept : Kept n order k
  pub files : chosen set starts order k ≡ winners (files_at set starts n)
