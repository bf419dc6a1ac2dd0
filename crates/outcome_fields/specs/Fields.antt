-- The closed flags, and edits that leave every row in its place.
-- Assumes nothing.
use Rattle.std.specs.Prelude.{ℕ, ◌≡◌, Bool, List}
use Rattle.outcome.specs.Head.{Closed}
use Rattle.outcome.specs.State.{State}
use Rattle.outcome.specs.Change.{with_closed, shut_links, shut_tags, shut_runs, shut_owner, shut_group, shut_mode}
use Rattle.outcome_target.specs.Held.{Held}
use Rattle.outcome_target.specs.declared.Layout.{Layout}
use Rattle.outcome_fields.specs.declared.Closable.{Closable}
use Rattle.outcome_fields.specs.declared.Closable.TheVariants.{Links, Tags, Runs, Owner, Group, Mode}

-- the bit of a key's flag
abbrev pub flag_place : Closable → ℕ
flag_place Links = 4
flag_place Tags = 5
flag_place Runs = 6
flag_place Owner = 7
flag_place Group = 8
flag_place Mode = 9

abbrev pub flag : Closable → Closed → Bool
flag Links c = c.links
flag Tags c = c.tags
flag Runs c = c.runs
flag Owner c = c.owner
flag Group c = c.group
flag Mode c = c.mode

abbrev pub shut : Closable → Closed → Closed
shut Links c = shut_links c
shut Tags c = shut_tags c
shut Runs c = shut_runs c
shut Owner c = shut_owner c
shut Group c = shut_group c
shut Mode c = shut_mode c

abbrev pub closed_by : Closable → State → State
closed_by key s = with_closed s (shut key s.closed)

-- an edit that moves no row
abbrev pub Rewritten : (State → State) → List ℕ → List ℕ → Type 0
Rewritten op l l' = (n : ℕ) (lay : Layout) (s : State) → Held n l lay s → Held n l' lay (op s)

-- what a target says of a flag
abbrev pub Says : Closable → List ℕ → Bool → Type 0
Says key l r = (n : ℕ) (lay : Layout) (s : State) → Held n l lay s → r ≡ flag key s.closed
