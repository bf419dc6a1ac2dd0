-- What the reading of a mode answers.
-- Assumes nothing.
use Rattle.std.specs.Prelude.{ℕ, ◌<◌, List, Option, Some, None}
use Rattle.lists.specs.Lists.{pick}
use Rattle.outcome.specs.Content.{ok_mode, mode_number}

unfoldable pub mode_of : List ℕ → Option ℕ
mode_of x = pick (ok_mode x) (Some (mode_number x)) None

-- a mode has 12 bits
abbrev pub Small : Option ℕ → Type 0
Small (Some m) = m < 4096
Small None = Unit {0}
