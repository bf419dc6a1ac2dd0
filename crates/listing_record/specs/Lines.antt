-- The lines of the state whose record a target holds.
-- Assumes nothing.
use Rattle.std.specs.Prelude.{ℕ, List, ◌∷◌, ◌++◌, Option}
use Rattle.lists.specs.Lists.{cat}
use Rattle.bits.specs.Signed.{to_signed}
use Rattle.entries.specs.Entry.{Property}
use Rattle.lists.specs.Quoted.{bytes}
use Rattle.template.specs.Decimal.{decimal}
use Rattle.engine.specs.Listing.{escaped, signed, line_of, mode_line, set_line, watch_line}
use Rattle.outcome.specs.State.{State}
use Rattle.outcome_target.specs.Held.{Held}
use Rattle.outcome_target.specs.declared.Layout.{Layout}
use Rattle.insertion.specs.Append.{Appended}

-- a line for each text
abbrev pub text_lines : List ℕ → List (List ℕ) → List ℕ
text_lines word xs = cat (λ (x : List ℕ). line_of word (escaped x)) xs

-- a line for each property
abbrev pub property_lines : List ℕ → List Property → List ℕ
property_lines word ps = cat (λ (p : Property). line_of word (escaped p.key ++ (61 ∷ escaped p.value))) ps

-- the rules visited and the devices tried (document 02, Item 9)
abbrev pub count_lines : ℕ → ℕ → List ℕ
unfolding bytes
count_lines visited tried = line_of (bytes "visited") (decimal visited) ++ line_of (bytes "tried") (decimal tried)

-- what a state has one of
abbrev pub setting_lines : State → List ℕ
unfolding bytes
setting_lines s =
    line_of (bytes "priority") (signed (to_signed s.priority))
    ++ (mode_line s.mode ++ (set_line (bytes "owner") s.owner ++ (set_line (bytes "group") s.group ++ watch_line s.watch)))

-- links, properties, tags
abbrev pub list_lines : State → List ℕ
unfolding bytes
list_lines s = text_lines (bytes "link") s.links ++ (property_lines (bytes "env") s.properties ++ text_lines (bytes "tag") s.tags)

-- all but the commands
abbrev pub record_lines : ℕ → ℕ → State → List ℕ
record_lines visited tried s = count_lines visited tried ++ (setting_lines s ++ list_lines s)

-- lines of the state whose record the target t holds, written behind the first `used` bytes
abbrev pub StateBehind : (State → List ℕ) → List ℕ → Layout → List ℕ → ℕ → Option ℕ → List ℕ → Type 0
StateBehind lines t lay o used r o₁ = (n : ℕ) (s : State) → Held n t lay s → Appended (lines s) o used r o₁
