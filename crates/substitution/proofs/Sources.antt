-- The source that a chain, a place in it, a row of properties and an output make.
-- Assumes nothing.
use Prim.Native.Nat.{ℕ, zero, suc, ◌-◌, ◌≤◌}
use mathlib.Core.Path.{◌≡◌, refl, ap}
use mathlib.Core.List.{List}
use Rattle.std.specs.Prelude.{Some}
use native.Mathlib.Omega.{arith}
use lib.ListN.{length, get_or, drop}
use Rattle.lists.specs.Bytes.{Bytes}
use Rattle.lists.specs.Lists.{nth}
use Rattle.lists.proofs.Records.{nth_there}
use Rattle.entries.specs.Parse.{got, many}
use Rattle.entries.specs.Entry.{Property, one_prop}
use Rattle.device.specs.Device.{Device, chain, decode}
use Rattle.device_lookup.specs.Lookup.{Chained}
use Rattle.device_lookup.specs.declared.Chain.{Chain}
use Rattle.device_lookup.proofs.Chains.{chain_lies}
use Rattle.outcome_readers.specs.Readers.{OutputIs}
use Rattle.engine.specs.Substitute.{Source, matched_in}
use Rattle.lists.proofs.Moves.{ap_at}
use Rattle.substitution.specs.Places.{MatchedIs, From, places_in}
use Rattle.substitution.specs.declared.Places.{Places}

module _ (dev : List ℕ) (d : Device) (b : Bytes dev) (e : decode dev ≡ Some d) (r : Chain) (c : Chained d r) (rec : List ℕ) (at n : ℕ) (ps : List Property) (rest : List ℕ) (h : at ≤ length rec) (q : many one_prop n (drop at rec) ≡ got ps rest) (x : List ℕ) (o : OutputIs rec x) where
  pub chain_source : (place : ℕ) → place ≤ length (chain d) → From dev rec (places_in r place at n) (record { device = d; place = place; properties = ps; output = x })
  chain_source zero k = record { device = e; event = chain_lies dev d b e r c 0 d.event refl; matched = refl; inside = h; rest = rest; properties = q; output = o }
  chain_source (suc i) k =
      let (m, z) = nth_there (chain d) i (omega arith) in
      record { device = e; event = chain_lies dev d b e r c 0 d.event refl; matched = (m, z, chain_lies dev d b e r c i m z); inside = h; rest = rest; properties = q; output = o }

-- the places of a matched device
pub places-matched : (r : Chain) (place at n : ℕ) → (place ≡ 0 → ⊥)
    → ◌≡◌ {A = Places} (record { event = get_or r.at 0 0; matched = Some (get_or r.at (place - 1) 0); properties = at; count = n }) (places_in r place at n)
places-matched r zero at n h = absurd (h refl)
places-matched r (suc k) at n h =
    ap_at (λ i. record { event = get_or r.at 0 0; matched = Some (get_or r.at i 0); properties = at; count = n }) (suc k - 1) k (omega arith)
