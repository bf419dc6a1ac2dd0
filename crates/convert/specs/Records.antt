-- The record that a conversion makes of a state, or its refusal.
-- Assumes nothing.
use Rattle.std.specs.Prelude.{ℕ, ◌/◌, ◌≡◌, Bool, ◌&&◌, List, leb, eqb, length, get_or}
use Rattle.std.specs.Prelude.{Option, None, Some}
use Rattle.lists.specs.Sizes.{fullest_old}
use Rattle.lists.specs.Checked.{Checked, ◌>>◌, refused, ok, require, Placed, line}
use Rattle.lists.specs.Refusal.{Refusal, outcome_bad, too_new}
use Rattle.outcome.specs.State.{State, encode, decode}
use Rattle.outcome.specs.Old.{plain, encode_old}

-- the length and the edition of a record of edition 1
abbrev pub old_like : List ℕ → Bool
old_like bs = leb 11 (length bs) && (leb (length bs) fullest_old && eqb (get_or bs 0 0 / 16) 1)

-- to edition 2, of what was read of edition 1
abbrev pub new_record : Option State → Checked (Placed Refusal) (List ℕ)
new_record None = refused (line 0 outcome_bad)
new_record (Some s) = ok (encode s)

-- to edition 1
abbrev pub old_record : State → Checked (Placed Refusal) (List ℕ)
old_record s = require (plain s) (line 0 too_new) >> ok (encode_old s)

-- a record of edition 2 that is sound beside some chain, and what holds of its state
abbrev pub Sound : List ℕ → Type 0
Sound rec = (n : ℕ) × (s : State) × (decode n rec ≡ Some s)

abbrev pub OfSound : List ℕ → (State → Type 0) → Type 0
OfSound rec P = (n : ℕ) (s : State) → decode n rec ≡ Some s → P s
