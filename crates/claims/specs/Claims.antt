-- What code says of the claims of records.
-- Assumes nothing.
use Rattle.std.specs.Prelude.{ℕ, suc, ◌≤◌, ◌≡◌, true, List, ◌∷◌, length, take, drop}
use Rattle.std.specs.Prelude.{Some, None}
use Rattle.lists.specs.Lists.{pick}
use Rattle.lists.specs.Bytes.{distinct}
use Rattle.rows.specs.Row.{Row, names}
use Rattle.rows.specs.declared.Kind.TheVariants as kind
use Rattle.outcome.specs.State.{State}
use Rattle.contest.specs.Contest as contest
use Rattle.contest.specs.Contest.{claims, rank, claimants, positions, highest}
use Rattle.claims.specs.Records.{Standing}
use Rattle.claims.specs.declared.Claims.{Claims}
use Rattle.claims.specs.declared.Claim.{Claim}
use Rattle.claims.specs.declared.Claimant.{Claimant}
use Rattle.claims.specs.declared.Holding.{Holding}

-- the links of a state stand in its record
pub record ClaimsAre (rec : List ℕ) (s : State) (r : Claims) : Type 0 where
  pub within : r.links ≤ length rec
  pub counted : r.count ≡ length s.links
  pub row : Row kind.Text r.count (drop r.links rec)
  pub named : names kind.Text r.count (drop r.links rec) ≡ s.links
  pub apart : distinct s.links ≡ true
  pub priority : r.priority ≡ rank s

-- the first of records claims a name or not, and the others begin behind it
pub record ClaimIs (set name : List ℕ) (s : State) (ss : List State) (r : Claim) : Type 0 where
  pub priority : r.priority ≡ pick (claims name s) (Some (rank s)) None
  pub others : Standing set r.end ss

abbrev pub as_claimant : Claimant → contest.Claimant
as_claimant c = record { position = c.position; priority = c.priority }

-- of a claimant and the records behind it: who holds the name, and all who claim it
pub record HoldingIs (list name : List ℕ) (c : contest.Claimant) (ss : List State) (r : Holding) : Type 0 where
  pub holder : r.holder ≡ (highest c (claimants name (suc c.position) ss)).position
  pub claimed : take r.count list ≡ positions (c ∷ claimants name (suc c.position) ss)
  pub few : r.count ≤ 64
  pub low : r.holder ≤ 64
