-- What holds of the value that a check gives, without a case for the refusal.
-- Assumes nothing.
use mathlib.Core.Path.{◌≡◌, refl, subst}
use mathlib.Core.Bool.{Bool, true, false}
use Rattle.std.specs.Prelude.{Option, None, Some}
use Prim.Native.Nat.{ℕ}
use Rattle.lists.specs.Checked.{Checked, refused, ok, ◌>>=◌, ◌>>◌, require, found, Holds, Placed, line, on_line}

module _ {R : Type 0} where
  pub holds-map : {A : Type 0} (P Q : A → Type 0) (c : Checked R A) → Holds P c → ((a : A) → P a → Q a) → Holds Q c
  holds-map P Q (refused f) h g = tt
  holds-map P Q (ok a) h g = g a h

  pub holds-bind : {A B : Type 0} (P : A → Type 0) (Q : B → Type 0) (c : Checked R A) (k : A → Checked R B)
      → Holds P c → ((a : A) → P a → Holds Q (k a)) → Holds Q (c >>= k)
  holds-bind P Q (refused f) k h g = tt
  holds-bind P Q (ok a) k h g = g a h

  pub holds-seq : {A B : Type 0} (P : A → Type 0) (Q : B → Type 0) (c : Checked R A) (e : Checked R B)
      → Holds P c → ((a : A) → P a → Holds Q e) → Holds Q (c >> e)
  holds-seq P Q (refused f) e h g = tt
  holds-seq P Q (ok a) e h g = g a h

  -- where a value is given, it holds of that value
  pub holds_at : {A : Type 0} (P : A → Type 0) {c : Checked R A} {a : A} → c ≡ ok a → Holds P c → P a
  holds_at P e h = subst (Holds P) e h

  -- a value that is given is the one that is given
  pub holds_self : {A : Type 0} (c : Checked R A) → Holds (λ (a : A). c ≡ ok a) c
  holds_self (refused f) = tt
  holds_self (ok a) = refl

  pub holds-require : (b : Bool) (f : R) → Holds (λ (_ : Unit {0}). b ≡ true) (require b f)
  holds-require true f = refl
  holds-require false f = tt

  pub holds-found : {A : Type 0} (o : Option A) (f : R) → Holds (λ (a : A). o ≡ Some a) (found o f)
  holds-found None f = tt
  holds-found (Some a) f = refl

  pub holds-on_line : {A : Type 0} (P : A → Type 0) (n : ℕ) (c : Checked R A) → Holds P c → Holds P (on_line n c)
  holds-on_line P n (refused f) h = tt
  holds-on_line P n (ok a) h = h
