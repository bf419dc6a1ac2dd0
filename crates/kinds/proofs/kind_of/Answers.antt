-- `kinds::kind_of` meets its contract.
use native.Mathlib.Omega.{arith}
use Rattle.kinds.proofs.Numbers.{plain_few}
use Rattle.kinds.proofs.kind_of.Goals as goal

pub overflow_add-result : goal.overflow_add-result
overflow_add-result c = omega (arith, c.plain_number.ensures, plain_few c.args.plain)

pub overflow_add-result-2 : goal.overflow_add-result-2
overflow_add-result-2 c = omega (arith, c.plain_number.ensures, plain_few c.args.plain)
