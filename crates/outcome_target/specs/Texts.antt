-- Links and tags as one kind of list.
-- Assumes nothing.
use Rattle.std.specs.Prelude.{ℕ, Bool, List}
use Rattle.lists.specs.Sizes.{most_links, most_tags}
use Rattle.outcome.specs.Content.{ok_link}
use Rattle.outcome.specs.State.{State, ok_tag}
use Rattle.outcome.specs.Change.{with_links, with_tags}
use Rattle.outcome_target.specs.declared.Section.{Section}
use Rattle.outcome_target.specs.declared.Section.TheVariants as section
use Rattle.outcome_target.specs.declared.Texts.{Texts}
use Rattle.outcome_target.specs.declared.Texts.TheVariants.{Links, Tags}

abbrev pub section_of : Texts → Section
section_of Links = section.Links
section_of Tags = section.Tags

-- what an entry must be, and how many there may be
abbrev pub ok_of : Texts → List ℕ → Bool
ok_of Links x = ok_link x
ok_of Tags x = ok_tag x

abbrev pub most_of : Texts → ℕ
most_of Links = most_links
most_of Tags = most_tags

-- the list in a state, and a state with the list anew
abbrev pub texts_in : Texts → State → List (List ℕ)
texts_in Links s = s.links
texts_in Tags s = s.tags

abbrev pub with_texts : Texts → State → List (List ℕ) → State
with_texts Links s xs = with_links s xs
with_texts Tags s xs = with_tags s xs
