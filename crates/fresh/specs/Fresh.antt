-- The target with the record of a fresh outcome.
-- Assumes nothing.
use Rattle.std.specs.Prelude.{ℕ, ◌≡◌, List, length}
use Rattle.splice.specs.Moves.{padded}
use Rattle.outcome.specs.State.{encode, fresh}
use Rattle.device_lookup.specs.Lookup.{OfDevice}

-- the record and zeros behind it, with the record's length
abbrev pub Made : List ℕ → List ℕ → ℕ → Type 0
Made dev l used = OfDevice dev (λ d. (l ≡ padded (length l) (encode (fresh d))) × (used ≡ length (encode (fresh d))))
