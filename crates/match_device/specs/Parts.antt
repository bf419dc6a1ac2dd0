-- When a match key holds of a part of one device.
-- Assumes nothing.
use Rattle.std.specs.Prelude.{ℕ, Bool, false, List, [], ◌∷◌}
use Rattle.std.specs.Prelude.{Option, None, Some}
use Rattle.pattern.specs.Pattern.{matches}
use Rattle.rules.specs.Key.{Op}
use Rattle.device.specs.Device.{Member, name_of, attr_of}
use Rattle.engine.specs.Match.{judged, seen_by}
use Rattle.match_device.specs.declared.Part.{Part}
use Rattle.match_device.specs.declared.Part.TheVariants.{Path, Name, Subsystem, Driver, Attribute}

-- document 02, Item 4: a driver of no bytes is absent
abbrev pub driver_holds : Op → List ℕ → List ℕ → Bool
driver_holds op value [] = judged op false
driver_holds op value (b ∷ bs) = judged op (matches value (b ∷ bs))

-- Item 4: an attribute that may be absent
abbrev pub attribute_holds : Op → List ℕ → Option (List ℕ) → Bool
attribute_holds op value None = judged op false
attribute_holds op value (Some a) = judged op (matches value (seen_by value a))

-- the operator, the argument and the match value of a pair, and the device
abbrev pub part_holds : Part → Op → List ℕ → List ℕ → Member → Bool
part_holds Path op argument value m = judged op (matches value m.path)
part_holds Name op argument value m = judged op (matches value (name_of m))
part_holds Subsystem op argument value m = judged op (matches value m.subsystem)
part_holds Driver op argument value m = driver_holds op value m.driver
part_holds Attribute op argument value m = attribute_holds op value (attr_of argument m)
