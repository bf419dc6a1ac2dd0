-- `escapes::put_at` meets its contract.
use mathlib.Core.Path.{refl}
use native.Mathlib.Omega.{arith}
use Rattle.escapes.proofs.put_at.Goals as goal

pub returns-else-n-out : goal.returns-else-n-out
returns-else-n-out c = record { size = refl; is = λ h. absurd (omega arith) }
