-- What the code answers of a set, by what the definitions read.
-- Assumes nothing.
use Rattle.std.specs.Prelude.{ℕ, ◌+◌, ◌≤◌, ◌<◌, ◌≡◌, Bool, ◌||◌, List, [], ◌∷◌, length}
use Rattle.std.specs.Prelude.{Option, None, Some}
use Rattle.lists.specs.Bytes.{between}
use Rattle.lists.specs.Runs.{span}
use Rattle.lists.specs.Items.{Item}
use Rattle.pattern.specs.Pattern.{Range, Element, members, is_inside, within, unless, takes}
use Rattle.glob.specs.Place.{alternative_at}
use Rattle.glob.specs.declared.Member.{Member}
use Rattle.glob.specs.declared.SetRead.{SetRead}

-- of a set at a place, asked of a byte
abbrev pub set_read : Option (Item Element) → ℕ → ℕ → Option SetRead
set_read None x p = None
set_read (Some i) x p = Some (record { taken = takes i.value x; next = p + i.more })

-- at the closing bracket, where it is known whether the byte is a member
abbrev pub answered : Bool → Bool → ℕ → Option SetRead
answered opposite found next = Some (record { taken = unless opposite found; next = next })

-- ---- within a set, where it is known whether the byte is among the members before

abbrev pub members_read : Bool → Bool → ℕ → ℕ → Option (List Range) → Option SetRead
members_read opposite found x next None = None
members_read opposite found x next (Some rs) = answered opposite (found || within rs x) next

-- a body, and what follows it: the closing bracket or nothing
abbrev pub body_read : Bool → Bool → ℕ → ℕ → List ℕ → List ℕ → Option SetRead
body_read opposite found x next body [] = None
body_read opposite found x next body (b ∷ rest) = members_read opposite found x next (members body)

-- at a place where a member begins, whatever its first byte is
abbrev pub member_start : Bool → Bool → ℕ → ℕ → List ℕ → Option SetRead
member_start opposite found x i [] = None
member_start opposite found x i (b ∷ bs) = body_read opposite found x (i + length (span is_inside bs).value + 2) (b ∷ (span is_inside bs).value) (span is_inside bs).rest

-- at a place behind a member: another one begins, or the set is closed
abbrev pub behind_member : Bool → Bool → ℕ → ℕ → List ℕ → Option SetRead
behind_member opposite found x i bs = body_read opposite found x (i + length (span is_inside bs).value + 1) (span is_inside bs).value (span is_inside bs).rest

-- ---- a member

-- a member that was read at a place, with the set read on behind it
pub record ReadOn (pattern : List ℕ) (i low high next : ℕ) : Type 0 where
  pub forward : i < next
  pub inside : next ≤ length pattern
  pub on : (opposite found : Bool) (x : ℕ)
      → member_start opposite found x i (alternative_at pattern i) ≡ behind_member opposite (found || between low high x) x next (alternative_at pattern next)

abbrev pub MemberIs : Option Member → List ℕ → ℕ → Type 0
MemberIs (Some m) pattern i = ReadOn pattern i m.low m.high m.next
MemberIs None pattern i = (opposite found : Bool) (x : ℕ) → member_start opposite found x i (alternative_at pattern i) ≡ None
