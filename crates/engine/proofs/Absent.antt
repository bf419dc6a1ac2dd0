-- Document 02, Item 4: where an attribute or a driver is absent, `==` never holds and `!=` always does, at the event device and at each
-- device of the chain; where one is present, the value is judged as before.
-- Assumes nothing.
use Prim.Native.Nat.{ℕ}
use mathlib.Core.Path.{◌≡◌, refl, ap}
use mathlib.Core.Bool.{Bool, true, false}
use mathlib.Core.List.{List, [], ◌∷◌}
use Rattle.std.specs.Prelude.{Option, None, Some}
use Rattle.rules.specs.Key.{DRIVER, DRIVERS, ATTR, ATTRS, Op, equal, unequal}
use Rattle.rules.specs.Pair.{Pair}
use Rattle.device.specs.Device.{Member, Device, attr_of}
use Rattle.outcome.specs.State.{State}
use Rattle.engine.specs.Match.{judged, value_holds, seen_by, attr_judged, attr_holds, driver_holds, key_holds, parent_holds}

-- what the four keys say of a device: nothing is there, or a value
pub data Seen : Type 0 where
  absent : Seen
  seen : List ℕ → Seen

-- what is to hold: by the operator where nothing is there, by the value where something is
abbrev pub expected : Pair → Seen → Bool
expected p absent = judged p.op false
expected p (seen v) = value_holds p v

abbrev pub attribute : Pair → Option (List ℕ) → Seen
attribute p None = absent
attribute p (Some a) = seen (seen_by p.value a)

abbrev pub driver : List ℕ → Seen
driver [] = absent
driver (b ∷ bs) = seen (b ∷ bs)

pub record Judged (d : Device) (s : State) (p : Pair) : Type 0 where
  pub ATTR-holds : key_holds ATTR d s p ≡ expected p (attribute p (attr_of p.argument d.event))
  pub DRIVER-holds : key_holds DRIVER d s p ≡ expected p (driver d.event.driver)
  pub ATTRS-holds : (m : Member) → parent_holds ATTRS m p ≡ expected p (attribute p (attr_of p.argument m))
  pub DRIVERS-holds : (m : Member) → parent_holds DRIVERS m p ≡ expected p (driver m.driver)

judged-attribute : (p : Pair) (o : Option (List ℕ)) → attr_judged p o ≡ expected p (attribute p o)
judged-attribute p None = refl
judged-attribute p (Some a) = refl

judged-driver : (p : Pair) (x : List ℕ) → driver_holds p x ≡ expected p (driver x)
unfolding driver_holds
judged-driver p [] = refl
judged-driver p (b ∷ bs) = refl

pub item4 : (d : Device) (s : State) (p : Pair) → Judged d s p
unfolding key_holds parent_holds attr_holds
item4 d s p =
    record {
      ATTR-holds = judged-attribute p (attr_of p.argument d.event);
      DRIVER-holds = judged-driver p d.event.driver;
      ATTRS-holds = λ m. judged-attribute p (attr_of p.argument m);
      DRIVERS-holds = λ m. judged-driver p m.driver;
    }

-- `==` never, `!=` always
pub never : (p : Pair) → p.op ≡ equal → expected p absent ≡ false
never p e = ap (λ (o : Op). judged o false) e

pub always : (p : Pair) → p.op ≡ unequal → expected p absent ≡ true
always p e = ap (λ (o : Op). judged o false) e
