-- Document 02, Item 2: what is wanted of the writer.
-- Assumes nothing.
use Rattle.std.specs.Prelude.{ℕ, ◌+◌, ◌≤◌, ◌≡◌, List, map, length}
use Rattle.lists.specs.Checked.{ok, Placed}
use Rattle.lists.specs.Sizes.{most_text}
use Rattle.text.specs.Reading.{read_text}
use Rattle.rules.specs.Pair.{Rule}
use Rattle.rules.specs.Reading.{reader}
use Rattle.writing.specs.Writing.{rule_of, written, write_checked}

-- a text reads to these rules in this order, on whatever lines
abbrev pub Reads : List ℕ → List Rule → Type 0
Reads t rs = (ps : List (Placed Rule)) × (read_text reader t ≡ ok ps) × (map rule_of ps ≡ rs)

pub record Wanted : Type 0 where
  -- what is written is accepted, and reads back to the same rules in the same order
  pub reads_back : (t : List ℕ) (rs : List (Placed Rule)) → read_text reader t ≡ ok rs → length (written rs) ≤ most_text → Reads (written rs) (map rule_of rs)
  -- writing twice gives the same bytes
  pub twice : (t w : List ℕ) (room : ℕ) → write_checked t room ≡ ok w → write_checked w room ≡ ok w
  -- it is never longer than the source and one final newline
  pub no_longer : (t : List ℕ) (rs : List (Placed Rule)) → read_text reader t ≡ ok rs → length (written rs) ≤ length t + 1
