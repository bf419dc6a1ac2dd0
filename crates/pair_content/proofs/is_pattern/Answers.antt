-- `pair_content::is_pattern` meets its contract.
use mathlib.Core.Path.{ap}
use mathlib.Core.Bool.{not}
use Rattle.pair_content.proofs.is_pattern.Goals as goal

pub returns-then-is_match : goal.returns-then-is_match
returns-then-is_match c = rw (← c.is_match.ensures, c.if-is_match.true) (ap not c.is_program.ensures)

pub returns-else-is_match : goal.returns-else-is_match
returns-else-is_match c = rw (← c.is_match.ensures, c.if-is_match.false)
