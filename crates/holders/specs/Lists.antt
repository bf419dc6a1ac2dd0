-- The rows that code writes, and the list so far.
-- Assumes nothing.
use Rattle.std.specs.Prelude.{ℕ, suc, ◌+◌, ◌≤◌, ◌<◌, ◌≡◌, List, ◌∷◌, map, eqb, length, take, drop}
use Rattle.lists.specs.Lists.{reject, cat}
use Rattle.splice.specs.Moves.{padded}
use Rattle.contest.specs.Contest.{firsts, links_of, claimants, Listed, listed_by}
use Rattle.contest.specs.Operation.{enc_listed}
use Rattle.claims.specs.Records.{states_in, Standing}
use Rattle.claims.specs.Claims.{as_claimant}
use Rattle.claims.specs.declared.Claimant.{Claimant}
use Rattle.holders.specs.declared.Progress.{Progress}

-- ---- one row

-- by the positions of all claimants
abbrev pub row_by : List ℕ → ℕ → List ℕ → Listed
row_by x holder ps = record { name = x; holder = holder; others = reject (λ p. eqb p holder) ps }

-- of a name, among the records of a set
abbrev pub row_of : List ℕ → List ℕ → Listed
row_of set x = listed_by x (claimants x 1 (states_in set))

-- code has a name, its first claimant, and where the records behind that one begin; there is room for the row at `at`
pub record Naming (t : List ℕ) (at : ℕ) (set : List ℕ) (p n : ℕ) (x : List ℕ) (first : Claimant) : Type 0 where
  pub counted : n ≡ length (states_in set)
  pub few : n ≤ 64
  pub some : 0 < first.position
  pub upto : first.position ≤ n
  pub standing : Standing set p (drop first.position (states_in set))
  pub claimed : claimants x 1 (states_in set) ≡ as_claimant first ∷ claimants x (suc first.position) (drop first.position (states_in set))
  pub short : length x < 256
  pub room : at + length (enc_listed (row_of set x)) ≤ length t

-- ---- the list

-- the rows of names
abbrev pub rows_of : List ℕ → List (List ℕ) → List ℕ
rows_of set xs = cat enc_listed (map (row_of set) xs)

-- n sound records, whose list fits
pub record Going (t set : List ℕ) (n : ℕ) : Type 0 where
  pub counted : n ≡ length (states_in set)
  pub few : n ≤ 64
  pub standing : Standing set 1 (states_in set)
  pub fits : length (rows_of set (firsts (links_of (states_in set)))) ≤ length t

-- the list of the names that are claimed so far
pub record Written (set : List ℕ) (claimed : List (List ℕ)) (t : List ℕ) (end names : ℕ) : Type 0 where
  pub bytes : t ≡ padded (length t) (rows_of set (firsts claimed))
  pub ends : end ≡ length (rows_of set (firsts claimed))
  pub counts : names ≡ length (firsts claimed)

-- by the first records
pub record Listing (set t : List ℕ) (r : Progress) : Type 0 where
  pub standing : Standing set r.next (drop r.records (states_in set))
  pub written : Written set (links_of (take r.records (states_in set))) t r.end r.names
