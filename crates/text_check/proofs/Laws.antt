-- What was read of a text decides its check.
-- Assumes nothing.
use Prim.Native.Nat.{ℕ}
use mathlib.Core.Path.{◌≡◌, sym, ap}
use mathlib.Core.List.{List, []}
use Rattle.lists.specs.Checked.{Checked, ok, ◌>>◌, Placed}
use Rattle.lists.specs.Refusal.{Refusal}
use Rattle.text.specs.Reading.{read_text}
use Rattle.rules.specs.Pair.{Rule}
use Rattle.rules.specs.Reading.{reader}
use Rattle.engine.specs.Operations.{given}
use Rattle.text_check.specs.Check.{check as check_answer}

pub checked : (t : List ℕ) (c : Checked (Placed Refusal) (List (Placed Rule))) → read_text reader t ≡ c → given 0 (c >> ok []) ≡ check_answer t
checked t c e = ap (λ (x : Checked (Placed Refusal) (List (Placed Rule))). given 0 (x >> ok [])) (sym e)
