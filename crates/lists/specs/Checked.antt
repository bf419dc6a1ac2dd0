-- What a check gives: a value, or why it is refused. One check after the other is written with `do`.
-- Assumes nothing.
use Rattle.std.specs.Prelude.{ℕ, ◌+◌, Bool, true, false}
use Rattle.std.specs.Prelude.{Option, None, Some}

pub data Checked (R A : Type 0) : Type 0 where
  refused : R → Checked R A
  ok : A → Checked R A

-- one check after the other, up to the first refusal
infixl 10 ◌>>=◌ ◌>>◌
abbrev pub ◌>>=◌ : {R A B : Type 0} → Checked R A → (A → Checked R B) → Checked R B
refused f >>= k = refused f
ok a >>= k = k a

abbrev pub ◌>>◌ : {R A B : Type 0} → Checked R A → Checked R B → Checked R B
refused f >> c = refused f
ok a >> c = c

-- a test that must hold, and the refusal if it does not
abbrev pub require : {R : Type 0} → Bool → R → Checked R (Unit {0})
require true f = ok tt
require false f = refused f

-- a value that must be there, and the refusal if it is not
abbrev pub found : {R A : Type 0} → Option A → R → Checked R A
found (Some a) f = ok a
found None f = refused f

-- a fact of the value, if there is one
abbrev pub Holds : {R A : Type 0} → (A → Type 0) → Checked R A → Type 0
Holds P (refused f) = Unit {0}
Holds P (ok a) = P a

-- ---- lines

-- something and the number of its line
pub data Placed (A : Type 0) : Type 0 where
  line : ℕ → A → Placed A

abbrev pub line_of : {A : Type 0} → Placed A → ℕ
line_of (line n a) = n

-- a function of what stands on a line
abbrev pub in_place : {A B : Type 0} → (A → B) → Placed A → Placed B
in_place f (line n a) = line n (f a)

-- k lines further down
abbrev pub moved : {A : Type 0} → ℕ → Placed A → Placed A
moved k (line n a) = line (k + n) a

-- a refusal gets the line of what was checked
abbrev pub on_line : {R A : Type 0} → ℕ → Checked R A → Checked (Placed R) A
on_line n (refused f) = refused (line n f)
on_line n (ok a) = ok a
