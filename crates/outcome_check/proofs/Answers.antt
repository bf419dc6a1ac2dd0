-- What the check's answer says of the state that a record holds.
-- Assumes nothing.
use Prim.Native.Nat.{ℕ}
use mathlib.Core.Path.{◌≡◌, refl}
use Rattle.std.specs.Prelude.{Option, None, Some}
use native.Mathlib.Omega.{arith}
use Rattle.outcome.specs.State.{State}
use Rattle.outcome_target.specs.Layout.{layout_of}
use Rattle.outcome_target.specs.declared.Layout.{Layout}
use Rattle.outcome_check.specs.Check.{checked_of}

pub sound-state : (o : Option State) (lay : Layout) → Some lay ≡ checked_of o → (s : State) × (o ≡ Some s) × (lay ≡ layout_of s)
sound-state None lay e = let z : ◌≡◌ {A = ℕ} 0 1 = cc in absurd (omega arith)
sound-state (Some s) lay e = let f : lay ≡ layout_of s = cc in (s, refl, f)

pub faulty-state : (o : Option State) → None ≡ checked_of o → o ≡ None
faulty-state None e = refl
faulty-state (Some s) e = let z : ◌≡◌ {A = ℕ} 0 1 = cc in absurd (omega arith)
