-- `bits::to_signed` meets its contract.
use Prim.Native.Nat.{◌-◌}
use mathlib.Core.Path.{sym, ◌∙◌}
use native.Mathlib.Omega.{arith}
use mir.Syntax.{w32}
use mir.Facts.{to_z_pos}
use Rattle.bits.proofs.Signed.{signed_low, signed_high, flip_fits, flip_back}
use Rattle.bits.proofs.to_signed.Goals as goal

pub overflow_sub-result-else-x-lt2147483648 : goal.overflow_sub-result-else-x-lt2147483648
overflow_sub-result-else-x-lt2147483648 c = flip_fits (4294967295 - c.args.x) (omega arith)

pub returns-then-x-lt2147483648 : goal.returns-then-x-lt2147483648
returns-then-x-lt2147483648 c = to_z_pos w32 (omega arith) ∙ sym (signed_low c.args.x c.if-x-lt2147483648.true)

pub returns-else-x-lt2147483648 : goal.returns-else-x-lt2147483648
returns-else-x-lt2147483648 c = flip_back (4294967295 - c.args.x) (omega arith) ∙ sym (signed_high c.args.x c.if-x-lt2147483648.false (omega arith))
