-- What a function that follows a run answers, with the bounds that a caller needs: its end, or where a run that goes to the end begins.
-- Assumes nothing.
use Rattle.std.specs.Prelude.{ℕ, ◌-◌, ◌≤◌, ◌<◌, ◌≡◌, Bool, true, false, not, List, eqb, length, get_or, drop}
use Rattle.lists.specs.Lists.{all}
use Rattle.lists.specs.Runs.{span_at}

-- the end r of the run of bytes that pass a test and that starts at i; a run that starts past the end of the list ends where it starts
pub record RunEnd (p : ℕ → Bool) (s : List ℕ) (i r : ℕ) : Type 0 where
  pub place : r ≡ span_at p s i
  pub from : i ≤ r
  pub within : r - i ≤ length s - i

-- the place r where the run of bytes that pass a test and go to the end begins
pub record RunStart (p : ℕ → Bool) (s : List ℕ) (r : ℕ) : Type 0 where
  pub within : r ≤ length s
  pub behind : all p (drop r s) ≡ true
  pub before : 0 < r → p (get_or s (r - 1) 0) ≡ false

abbrev pub is_newline : ℕ → Bool
is_newline b = eqb b 10

-- any byte but b
abbrev pub is_not : ℕ → ℕ → Bool
is_not b x = not (eqb x b)
