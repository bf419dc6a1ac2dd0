-- What the bits of a row allow, operator by operator.
-- Assumes nothing.
use Prim.Native.Nat.{ℕ, ◌/◌, ◌%◌, ◌^◌}
use mathlib.Core.Path.{◌≡◌, refl}
use mathlib.Core.Bool.{Bool, true, false, ◌&&◌, ◌||◌, or-false, and-true}
use mathlib.Core.List.{List, ◌∷◌}
use lib.Dec.{eqb}
use native.Mathlib.Omega.{arith}
use Rattle.lists.specs.Lists.{pick}
use Rattle.lists.proofs.Tests.{and-false}
use Rattle.rules.specs.Key.{Op, op_number, allows}
use Rattle.keys.specs.declared.Operators.{Operators}
use denote.Enum.Declared.{tag_of}
use Rattle.keys.specs.contracts.Operator.{the_type}
use Rattle.keys.specs.declared.Operator.{Operator}
use Rattle.keys.specs.declared.Operator.TheVariants.{Equal, Unequal, Assign, Add, Remove, Final}
use Rattle.keys.specs.Table.{operator_of, allowed_of}

set-allows : (t : Bool) (x o : Op) (os : List Op) → allows (pick t (x ∷ os) os) o ≡ ((t && eqb (op_number x) (op_number o)) || allows os o)
set-allows true x o os = refl
set-allows false x o os = refl

whole : (n : ℕ) → n / 1 ≡ n
whole n = omega arith

-- the bit of an operator says whether it is one of the set
pub allows_by : (os : Operators) (o : Operator) → eqb (os.bits / 2 ^ tag_of the_type o % 2) 1 ≡ allows (allowed_of os) (operator_of o)
unfolding allowed_of
allows_by os Equal = simp (set-allows, and-true, and-false, or-false, whole os.bits)
allows_by os Unequal = simp (set-allows, and-true, and-false, or-false)
allows_by os Assign = simp (set-allows, and-true, and-false, or-false)
allows_by os Add = simp (set-allows, and-true, and-false, or-false)
allows_by os Remove = simp (set-allows, and-true, and-false, or-false)
allows_by os Final = simp (set-allows, and-true, and-false, or-false)
