-- `scan::same_long` meets its contract.
use mathlib.Core.Path.{sym}
use Rattle.scan.proofs.Equality.{same-unequal}
use Rattle.scan.proofs.same_long.Goals as goal

pub returns-then-a-b : goal.returns-then-a-b
returns-then-a-b c = sym (same-unequal _ _ c.if-a-b.true)
