-- What is there decides how an attribute and a driver are judged.
-- Assumes nothing.
use Prim.Native.Nat.{ℕ}
use native.Mathlib.Omega.{arith}
use mathlib.Core.Path.{◌≡◌, refl, sym}
use mathlib.Core.Bool.{false}
use mathlib.Core.List.{List, [], ◌∷◌}
use lib.ListN.{length, take, drop}
use Rattle.std.specs.Prelude.{Option, None, Some}
use Rattle.device_lookup.specs.declared.Span.{Span}
use Rattle.pattern.specs.Pattern.{matches}
use Rattle.rules.specs.Key.{Op}
use Rattle.engine.specs.Match.{judged, seen_by}
use Rattle.device_lookup.specs.Lookup.{Says}
use Rattle.match_device.specs.Parts.{driver_holds, attribute_holds}

module _ (op : Op) (value l : List ℕ) (found : Option Span) (o : Option (List ℕ)) (says : Says l found o) where
  pub present : (s : Span) → found ≡ Some s → judged op (matches value (seen_by value (take s.len (drop s.start l)))) ≡ attribute_holds op value o
  present s e = let is = rw e at says in rw is refl

  pub absent : found ≡ None → judged op false ≡ attribute_holds op value o
  absent e = let is = rw e at says in rw is refl

module _ (op : Op) (value : List ℕ) where
  pub no-driver : (x : List ℕ) → length x ≡ 0 → judged op false ≡ driver_holds op value x
  no-driver [] e = refl
  no-driver (b ∷ bs) e = absurd (omega arith)

  pub driver : (x : List ℕ) → (length x ≡ 0 → ⊥) → judged op (matches value x) ≡ driver_holds op value x
  driver [] e = absurd (e refl)
  driver (b ∷ bs) e = refl
