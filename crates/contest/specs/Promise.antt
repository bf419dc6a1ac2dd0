-- Document 02, Item 7: what is wanted of the list, said of the records alone.
-- Assumes nothing.
use Rattle.std.specs.Prelude.{ℕ, suc, ◌<◌, ◌≡◌, ◌↔◌, true, List, eqb, ◌≤ℤ◌, ◌<ℤ◌}
use Rattle.std.specs.Prelude.{Some}
use Rattle.lists.specs.Lists.{reject, nth, All}
use Rattle.lists.specs.Bytes.{among, distinct}
use Rattle.outcome.specs.State.{State}
use Rattle.contest.specs.Contest.{firsts, links_of, claims, rank, claimants, positions, Listed, names}

-- the record at a place (from 0) claims a name
pub record Claims (x : List ℕ) (ss : List State) (k : ℕ) : Type 0 where
  pub state : State
  pub there : nth k ss ≡ Some state
  pub claimed : claims x state ≡ true

-- of a listed name: its holder claims it, no claimant outranks the holder, no earlier one equals it; the others are the
-- positions of all claimants but the holder, in lent order
pub record Held (ss : List State) (e : Listed) : Type 0 where
  pub place : ℕ
  pub position : e.holder ≡ suc place
  pub holder : Claims e.name ss place
  pub highest : (k : ℕ) (c : Claims e.name ss k) → rank c.state ≤ℤ rank holder.state
  pub earliest : (k : ℕ) (c : Claims e.name ss k) → k < place → rank c.state <ℤ rank holder.state
  pub others : e.others ≡ reject (λ p. eqb p e.holder) (positions (claimants e.name 1 ss))

pub record Contested (ss : List State) (es : List Listed) : Type 0 where
  -- the names of the list are those that have a claimant
  pub listed : (x : List ℕ) → (among x (names es) ≡ true) ↔ ((k : ℕ) × Claims x ss k)
  -- each once
  pub once : distinct (names es) ≡ true
  -- in order of first claim
  pub ordered : names es ≡ firsts (links_of ss)
  pub held : All (Held ss) es
