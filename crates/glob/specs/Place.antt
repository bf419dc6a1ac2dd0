-- What stands at a place of a pattern, where a bar and the pattern's end both end an alternative.
-- Assumes nothing.
use Rattle.std.specs.Prelude.{ℕ, ◌+◌, ◌≡◌, Bool, not, ◌&&◌, ◌||◌, List, eqb, get_or, drop}
use Rattle.lists.specs.Runs.{span}
use Rattle.scan.specs.Ends.{is_not}
use Rattle.pattern.specs.Pattern.{alternative_matches}

-- the bytes of an alternative from a place of the pattern on
unfoldable pub alternative_at : List ℕ → ℕ → List ℕ
alternative_at pattern p = (span (is_not 124) (drop p pattern)).value

-- what is left of an alternative at a place matches a value
abbrev pub matches_from : List ℕ → ℕ → List ℕ → Bool
matches_from pattern p value = alternative_matches (alternative_at pattern p) value

-- the alternative goes on at a place
abbrev pub NotBar : List ℕ → ℕ → Type 0
NotBar pattern i = get_or pattern i 124 ≡ 124 → ⊥

-- a dash and one more byte of a set stand behind a place
abbrev pub range_at : List ℕ → ℕ → Bool
range_at pattern i = eqb (get_or pattern (i + 1) 124) 45 && not (eqb (get_or pattern (i + 2) 124) 93 || eqb (get_or pattern (i + 2) 124) 124)
