-- Document 01, Patterns and templates: a number in decimal.
-- Assumes nothing.
use Rattle.std.specs.Prelude.{ℕ, zero, suc, ◌+◌, ◌/◌, ◌%◌, true, false, List, [], ◌∷◌, ltb}

-- the last k digits of a number at most, without zeros in front, before what is written already
unfoldable pub decimal_on : ℕ → ℕ → List ℕ → List ℕ
decimal_on zero n done = done
decimal_on (suc k) n done = elim (ltb n 10) [ true ↦ (48 + n) ∷ done | false ↦ decimal_on k (n / 10) ((48 + n % 10) ∷ done) ]

-- of a number below 10,000,000,000
abbrev pub decimal : ℕ → List ℕ
decimal n = decimal_on 10 n []
