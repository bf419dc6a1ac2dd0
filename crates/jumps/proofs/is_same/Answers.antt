-- `jumps::is_same` meets its contract.
use mathlib.Core.Path.{sym}
use Rattle.scan.proofs.Equality.{same-unequal}
use Rattle.jumps.proofs.is_same.Goals as goal

pub returns-then-a-b : goal.returns-then-a-b
returns-then-a-b c = sym (same-unequal _ _ c.if-a-b.true)
