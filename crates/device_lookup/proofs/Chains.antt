-- Each device of a sound record lies at the place that the chain has for it.
-- Assumes nothing.
use Prim.Native.Nat.{ℕ, ◌<◌}
use mathlib.Core.Path.{◌≡◌, sym, ap, ◌∙◌, subst}
use mathlib.Core.List.{List}
use Rattle.std.specs.Prelude.{Some}
use native.Mathlib.Omega.{arith}
use lib.ListN.{get_or}
use lib.Seq.{get_or-take}
use Rattle.lists.specs.Lists.{nth}
use Rattle.lists.specs.Bytes.{Bytes}
use Rattle.lists.proofs.Records.{nth_in, nth_there}
use Rattle.device.specs.Device.{Member, Device, chain, decode}
use Rattle.device.specs.Places.{starts, Lies}
use Rattle.device.proofs.Places.{lies}
use Rattle.device_lookup.specs.Lookup.{Standing, Chained}
use Rattle.device_lookup.specs.declared.Chain.{Chain}
use Rattle.device_lookup.proofs.Devices.{record_short}

module _ (l : List ℕ) (d : Device) (b : Bytes l) (e : decode l ≡ Some d) (r : Chain) (c : Chained d r) where
  pub chain_lies : (k : ℕ) (m : Member) → nth k (chain d) ≡ Some m → Lies l (get_or r.at k 0) m
  chain_lies k m n =
      let h : k < r.len = omega (arith, nth_in (chain d) k m n, c.len) in
      let p : get_or (starts d) k 0 ≡ get_or r.at k 0 = ap (λ (x : List ℕ). get_or x k 0) (sym c.at) ∙ get_or-take r.len r.at k 0 h in
      subst (λ (i : ℕ). Lies l i m) p (lies l d b e k m n)

  pub chain-standing : (k : ℕ) → k < r.len → Standing l (get_or r.at k 0)
  chain-standing k h =
      let (m, n) = nth_there (chain d) k (omega (arith, c.len)) in
      record { member = m; lies = chain_lies k m n; short = record_short l d b e }
