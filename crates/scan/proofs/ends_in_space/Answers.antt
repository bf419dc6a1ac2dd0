-- `scan::ends_in_space` meets its contract.
use mathlib.Core.Path.{sym, ◌∙◌}
use native.Mathlib.Omega.{arith}
use lib.ListN.{length}
use Rattle.std.proofs.lemmas.Bool.{le-ltb}
use Rattle.lists.proofs.Scan.{ends_at, ends-empty}
use Rattle.scan.proofs.ends_in_space.Goals as goal

pub returns-then-n-gt0 : goal.returns-then-n-gt0
returns-then-n-gt0 c = c.is_space.ensures ∙ sym (ends_at c.args.s.now (omega arith))

pub returns-else-n-gt0 : goal.returns-else-n-gt0
returns-else-n-gt0 c = le-ltb 0 (length c.args.s.now) (omega arith) ∙ sym (ends-empty c.args.s.now (omega arith))
