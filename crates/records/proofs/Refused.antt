-- What is known where none became a refusal.
-- Assumes nothing.
use mathlib.Core.Path.{◌≡◌}
use Rattle.std.specs.Prelude.{Option, None, Some, Ok, Err, ok_or}

pub none_there : {A E : Type 0} (o : Option A) (d e : E) → Err e ≡ ok_or o d → (o ≡ None) × (e ≡ d)
none_there None d e is = (cc, cc)
none_there (Some x) d e is = absurd (cc)
