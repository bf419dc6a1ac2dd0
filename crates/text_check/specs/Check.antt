-- The check of a text as a full answer.
-- Assumes nothing.
use Rattle.std.specs.Prelude.{ℕ, List, []}
use Rattle.lists.specs.Checked.{ok, ◌>>◌}
use Rattle.text.specs.Run.{Answer}
use Rattle.text.specs.Reading.{read_text}
use Rattle.rules.specs.Reading.{reader}
use Rattle.engine.specs.Operations.{given}

-- a text, read without a device: nothing is made
abbrev pub check : List ℕ → Answer
check text = given 0 (read_text reader text >> ok [])
