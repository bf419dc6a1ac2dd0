-- A text at the front of a buffer.
-- Assumes nothing.
use Prim.Native.Nat.{ℕ}
use mathlib.Core.Path.{◌≡◌, sym, subst}
use mathlib.Core.List.{List}
use Rattle.std.specs.Prelude.{Option, None, Some}
use native.Mathlib.Omega.{arith}
use lib.ListN.{length, take}
use lib.Seq.{length-take-le}
use Rattle.lists.specs.Checked.{Checked, refused}
use Rattle.lists.specs.Refusal as refusal
use Rattle.substitution.specs.Turns.{Text, Filled}

module _ (o : Checked refusal.Refusal (List ℕ)) (l : List ℕ) where
  pub filled-front : (r : Option ℕ) (l' : List ℕ) → Filled o l r l' → (k : ℕ) → r ≡ Some k → Text o l k l'
  filled-front r l' h k q = subst (λ (r : Option ℕ). Filled o l r l') q h

  pub filled-long : (r : Option ℕ) (l' : List ℕ) → Filled o l r l' → r ≡ None → o ≡ refused refusal.substitution_long
  filled-long r l' h q = subst (λ (r : Option ℕ). Filled o l r l') q h

  pub front-size : (k : ℕ) (l' : List ℕ) → Text o l k l' → k ≡ length (take k l')
  front-size k l' h = sym (length-take-le k l' (omega (arith, h.room, h.size)))
