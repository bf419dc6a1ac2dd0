-- Bytes of a class, and the event device's path.
-- Assumes nothing.
use Prim.Native.Nat.{ℕ, ◌+◌, ◌≤◌, ◌<◌}
use mathlib.Core.Path.{◌≡◌, refl, sym, ap, ◌∙◌}
use mathlib.Core.Bool.{Bool, true, false, ◌||◌}
use mathlib.Core.List.{List, [], ◌∷◌}
use Rattle.std.specs.Prelude.{Some}
use native.Mathlib.Omega.{arith}
use lib.Dec.{eqb}
use Rattle.std.specs.List.{list_any}
use lib.ListN.{length, get_or, drop, drop_of_length-le}
use Rattle.lists.specs.Lists.{all}
use Rattle.lists.specs.Bytes.{Bytes, holds}
use Rattle.lists.proofs.Rest.{rest_at}
use Rattle.lists.proofs.Tests.{or-true}
use Rattle.device.specs.Device.{Device, decode}
use Rattle.device.specs.Places.{Lies}
use Rattle.device_lookup.specs.Lookup.{Standing, Chained}
use Rattle.device_lookup.specs.declared.Chain.{Chain}
use Rattle.device_lookup.proofs.Chains.{chain_lies, chain-standing}

-- a letter or a digit, as the library tests for it
pub fair-parts : (d u l h : Bool) → (((d || u) || l) || h) ≡ ((u || l) || (d || h))
fair-parts true u l h = sym (or-true (u || l))
fair-parts false true l h = refl
fair-parts false false true h = refl
fair-parts false false false h = refl

-- a mark, as the library looks for it
pub holds-any : (b : ℕ) (marks : List ℕ) → list_any (λ y. eqb y b) marks ≡ holds b marks
holds-any b [] = refl
holds-any b (m ∷ ms) = ap (λ (t : Bool). eqb m b || t) (holds-any b ms)

module _ (p : ℕ → Bool) (x : List ℕ) (i : ℕ) where
  pub all-not : i < length x → p (get_or x i 0) ≡ false → all p (drop i x) ≡ false
  all-not h e = ap (all p) (rest_at x i h) ∙ rw e

  pub all-next : i < length x → p (get_or x i 0) ≡ true → all p (drop i x) ≡ all p (drop (i + 1) x)
  all-next h e = ap (all p) (rest_at x i h) ∙ rw e

  pub all_end : length x ≤ i → all p (drop i x) ≡ true
  all_end h = ap (all p) (drop_of_length-le x h)

-- the event device stands first
pub event_stands : (l : List ℕ) (d : Device) → Bytes l → decode l ≡ Some d → (r : Chain) → Chained d r → Standing l (get_or r.at 0 0)
event_stands l d by e r c = chain-standing l d by e r c 0 (omega (arith, c.len))

pub event_lies : (l : List ℕ) (d : Device) → Bytes l → decode l ≡ Some d → (r : Chain) → Chained d r → Lies l (get_or r.at 0 0) d.event
event_lies l d by e r c = chain_lies l d by e r c 0 d.event refl
