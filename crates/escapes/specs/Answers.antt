-- What the code's answers stand for.
-- Assumes nothing.
use Rattle.std.specs.Prelude.{ℕ, ◌≤◌, ◌≡◌, List, length, take, drop}
use Rattle.std.specs.Prelude.{Option, None, Some}
use Rattle.lists.specs.Items.{Item}
use Rattle.lists.specs.Bytes.{part}
use Rattle.rules.specs.Coded.{coded}
use Rattle.escapes.specs.declared.Taken.{Taken}
use Rattle.escapes.specs.declared.Closed.{Closed}
use Rattle.escapes.specs.Values.{decoded, Written}

abbrev pub taken_by : Option Taken → Option (Item ℕ)
taken_by None = None
taken_by (Some t) = Some (record { value = t.byte; more = t.more })

-- of a value that starts at a place, where an array was out and is out'
abbrev pub ClosedIs : List ℕ → ℕ → List ℕ → List ℕ → Option Closed → Type 0
ClosedIs line start out out' (Some c) =
    Written line start c.end × (c.len ≡ length (decoded (part line start c.end))) × (c.len ≤ length out → take c.len out' ≡ decoded (part line start c.end))
ClosedIs line start out out' None = coded 0 (drop start line) ≡ None
