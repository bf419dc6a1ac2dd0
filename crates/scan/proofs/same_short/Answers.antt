-- `scan::same_short` meets its contract.
use mathlib.Core.Path.{sym}
use Rattle.scan.proofs.Equality.{same-unequal}
use Rattle.scan.proofs.same_short.Goals as goal

pub returns-then-len-b : goal.returns-then-len-b
returns-then-len-b c = sym (same-unequal _ _ c.if-len-b.true)
