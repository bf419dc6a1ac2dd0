-- Document 02, Item 13: the six keys that close, what a record holds under each, and a rule without the assignments to one of them.
-- Assumes nothing.
use Rattle.std.specs.Prelude.{◌≡◌, Bool, not, ◌&&◌, List, [], ◌∷◌}
use Rattle.lists.specs.Lists.{reject}
use Rattle.lists.specs.Checked.{Placed, line}
use Rattle.rules.specs.Key.{Key, SYMLINK, TAG, RUN, OWNER, GROUP, MODE, same_key, is_match}
use Rattle.rules.specs.Pair.{Pair, Rule}
use Rattle.outcome.specs.State.{State}

-- in the order of the record's flags
pub data ClosingKey : Type 0 where
  links tags runs owner group mode : ClosingKey

abbrev pub key_of : ClosingKey → Key
key_of links = SYMLINK
key_of tags = TAG
key_of runs = RUN
key_of owner = OWNER
key_of group = GROUP
key_of mode = MODE

abbrev pub is_closed : ClosingKey → State → Bool
is_closed links s = s.closed.links
is_closed tags s = s.closed.tags
is_closed runs s = s.closed.runs
is_closed owner s = s.closed.owner
is_closed group s = s.closed.group
is_closed mode s = s.closed.mode

-- two records hold the same under a key, and its flag is the same
abbrev pub Same : ClosingKey → State → State → Type 0
Same links s t = (s.links ≡ t.links) × (s.closed.links ≡ t.closed.links)
Same tags s t = (s.tags ≡ t.tags) × (s.closed.tags ≡ t.closed.tags)
Same runs s t = (s.runs ≡ t.runs) × (s.closed.runs ≡ t.closed.runs)
Same owner s t = (s.owner ≡ t.owner) × (s.closed.owner ≡ t.closed.owner)
Same group s t = (s.group ≡ t.group) × (s.closed.group ≡ t.closed.group)
Same mode s t = (s.mode ≡ t.mode) × (s.closed.mode ≡ t.closed.mode)

-- ---- without the assignments to a key

-- a pair that assigns to it, by any operator; a match of the key does not
abbrev pub assigns_to : ClosingKey → Pair → Bool
assigns_to k p = not (is_match p.op) && same_key p.key (key_of k)

abbrev pub drop_rule : ClosingKey → Rule → Rule
drop_rule k r = reject (assigns_to k) r

-- a rule with nothing left is no rule
abbrev pub unless_empty : {A : Type 0} → List A → List (Placed (List A)) → (List A → Placed (List A)) → List (Placed (List A))
unless_empty [] rs f = rs
unless_empty (p ∷ ps) rs f = f (p ∷ ps) ∷ rs

unfoldable pub drop_rules : ClosingKey → List (Placed Rule) → List (Placed Rule)
drop_rules k [] = []
drop_rules k (line n r ∷ rs) = unless_empty (drop_rule k r) (drop_rules k rs) (λ r'. line n r')
