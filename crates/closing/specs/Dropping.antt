-- Document 02, Item 13: a text without the assignments to one key.
-- Assumes nothing.
use Rattle.std.specs.Prelude.{ℕ, List, ◌++◌, map, replicate}
use Rattle.rules.specs.Pair.{Rule}
use Rattle.rules.specs.Reading.{reader}
use Rattle.text.specs.Engine.{LineRead, skip, fault, rule}
use Rattle.text.specs.Lines.{blank, newlines, lines_in}
use Rattle.text.specs.Reading.{read_lent}
use Rattle.writing.specs.Writing.{line_text}
use Rattle.striking.specs.Striking.{together}
use Rattle.closing.specs.Closing.{ClosingKey, drop_rule}

module _ (k : ClosingKey) where
  -- what is left of a rule, as the writer of Item 2 puts it, then the newlines of its joins, so that no line behind it moves; other lines stay as
  -- they are
  abbrev pub left_of : List ℕ → LineRead Rule → List ℕ
  left_of l skip = l
  left_of l (fault f) = l
  left_of l (rule r) = line_text (drop_rule k r) ++ replicate (newlines l) 10

  -- of a line as lent
  abbrev pub drop_line : List ℕ → List ℕ
  drop_line l = left_of l (read_lent reader l)

  -- all newlines kept and none added
  unfoldable pub drop_text : List ℕ → List ℕ
  drop_text t = together (map drop_line (lines_in blank t))
