-- From a record and its chain to one of its devices.
-- Assumes nothing.
use Prim.Native.Nat.{ℕ, ◌<◌}
use mathlib.Core.Path.{◌≡◌, refl}
use mathlib.Core.List.{List}
use Rattle.std.specs.Prelude.{Some}
use native.Mathlib.Omega.{arith}
use lib.ListN.{length, get_or}
use Rattle.lists.specs.Lists.{nth}
use Rattle.lists.specs.Bytes.{Bytes}
use Rattle.lists.proofs.Records.{nth_there}
use Rattle.device.specs.Device.{Member, chain}
use Rattle.device.specs.Places.{Lies}
use Rattle.device.proofs.RoundTrip.{decoded}
use Rattle.device_lookup.specs.Lookup.{Standing}
use Rattle.device_lookup.specs.declared.Chain.{Chain}
use Rattle.device_lookup.proofs.Chains.{chain_lies}
use Rattle.outcome_target.specs.declared.Layout.{Layout}
use Rattle.matching.specs.Judging.{Judging, Begun}

pub judging_stands : (dev : List ℕ) (at : ℕ) (t : List ℕ) (lay : Layout) → Judging dev at t lay → Standing dev at
judging_stands dev at t lay x = record { member = x.member; lies = x.lies; short = (decoded dev x.device x.decoded).0 }

module _ (dev : List ℕ) (b : Bytes dev) (places : Chain) (t : List ℕ) (lay : Layout) (x : Begun dev places t lay) where
  -- the device at a place of the chain
  pub record Nth (k : ℕ) : Type 0 where
    pub member : Member
    pub nth : nth k (chain x.device) ≡ Some member
    pub lies : Lies dev (get_or places.at k 0) member

  pub the_nth : (k : ℕ) → k < places.len → Nth k
  the_nth k h =
      let (m, e) = nth_there (chain x.device) k (omega (arith, x.chained.len)) in
      record { member = m; nth = e; lies = chain_lies dev x.device b x.decoded places x.chained k m e }

  abbrev pub judged_at : (k : ℕ) (m : Member) → Lies dev (get_or places.at k 0) m → Judging dev (get_or places.at k 0) t lay
  judged_at k m l = record { device = x.device; decoded = x.decoded; member = m; lies = l; n = x.n; state = x.state; held = x.held }

  -- the event device
  abbrev pub at_first : Judging dev (get_or places.at 0 0) t lay
  at_first = judged_at 0 x.device.event (chain_lies dev x.device b x.decoded places x.chained 0 x.device.event refl)
