-- What the readers of a record require and answer.
-- Assumes nothing.
use Rattle.std.specs.Prelude.{ℕ, ◌+◌, ◌-◌, ◌≤◌, ◌<◌, ◌≡◌, List, ◌∷◌, map, length, take, drop}
use Rattle.bits.specs.Bits.{number_at}
use Rattle.entries.specs.Parse.{got, many}
use Rattle.entries.specs.Entry.{one_text, one_prop, keys, lookup, or_empty}
use Rattle.rows.specs.Row.{Row, names}
use Rattle.rows.specs.declared.Kind.{Kind}
use Rattle.rows.specs.declared.Kind.TheVariants as kind
use Rattle.outcome.specs.Head.{header_size}
use Rattle.outcome.specs.Content.{ok_link}
use Rattle.outcome.specs.State.{State, Run, ok_tag, one_run}
use Rattle.outcome_target.specs.Held.{Held}
use Rattle.outcome_target.specs.declared.Layout.{Layout}
use Rattle.outcome_target.specs.declared.Section.{Section}
use Rattle.outcome_target.specs.declared.Section.TheVariants.{Links, Properties, Tags, Runs}
use Rattle.outcome_readers.specs.declared.RowPlace.{RowPlace}
use Rattle.outcome_readers.specs.declared.RunPlace.{RunPlace}

-- ---- rows

-- what the entries of a row are
abbrev pub kind_of : Section → Kind
kind_of Links = kind.Text
kind_of Properties = kind.Property
kind_of Tags = kind.Text
kind_of Runs = kind.Run

-- how many there are in a state
abbrev pub count_in : Section → State → ℕ
count_in Links s = length s.links
count_in Properties s = length s.properties
count_in Tags s = length s.tags
count_in Runs s = length s.runs

-- their names: a text, a key, a template
abbrev pub names_in : Section → State → List (List ℕ)
names_in Links s = s.links
names_in Properties s = keys s.properties
names_in Tags s = s.tags
names_in Runs s = map (λ (r : Run). r.template) s.runs

-- k entries at the front are those of a state, beside a chain of n devices
abbrev pub ReadIn : Section → ℕ → State → ℕ → List ℕ → Type 0
ReadIn Links n s k bs = (z : List ℕ) × (many (one_text ok_link) k bs ≡ got s.links z)
ReadIn Properties n s k bs = (z : List ℕ) × (many one_prop k bs ≡ got s.properties z)
ReadIn Tags n s k bs = (z : List ℕ) × (many (one_text ok_tag) k bs ≡ got s.tags z)
ReadIn Runs n s k bs = (z : List ℕ) × (many (one_run n) k bs ≡ got s.runs z)

-- a row of a state stands at a place of some bytes
pub record Stands (section : Section) (n : ℕ) (l : List ℕ) (s : State) (r : RowPlace) : Type 0 where
  pub within : r.at ≤ length l
  pub counted : r.count ≡ count_in section s
  pub row : Row (kind_of section) r.count (drop r.at l)
  pub named : names (kind_of section) r.count (drop r.at l) ≡ names_in section s
  pub read : ReadIn section n s r.count (drop r.at l)

-- in a target
abbrev pub Standing : Section → List ℕ → Layout → RowPlace → Type 0
Standing section l lay r = (n : ℕ) (s : State) → Held n l lay s → Stands section n l s r

-- ---- properties

-- the value under a key, in a target
abbrev pub Valued : List ℕ → Layout → List ℕ → List ℕ → Type 0
Valued l lay key v = (n : ℕ) (s : State) → Held n l lay s → v ≡ or_empty (lookup key s.properties)

-- ---- the output

-- what stands right behind the header, as long as its field says
abbrev pub output_in : List ℕ → List ℕ
output_in l = take (number_at l 88 10) (drop header_size l)

-- it stands there whole, and is x
pub record OutputIs (l x : List ℕ) : Type 0 where
  pub within : header_size + number_at l 88 10 ≤ length l
  pub is : output_in l ≡ x

-- ---- runs, one after the other

-- at least one stands at place p
pub record RunsFrom (l : List ℕ) (p : ℕ) : Type 0 where
  pub chain : ℕ
  pub left : ℕ
  pub runs : List Run
  pub behind : List ℕ
  pub within : p ≤ length l
  pub some : 0 < left
  pub read : many (one_run chain) left (drop p l) ≡ got runs behind

-- the places of a run
pub record RunIs (l : List ℕ) (run : Run) (r : RunPlace) : Type 0 where
  pub type : r.builtin ≡ run.builtin
  pub device : r.place ≡ run.place
  pub template : take (r.end - r.start) (drop r.start l) ≡ run.template
  pub rising : r.start ≤ r.end
  pub inside : r.end ≤ length l

-- the first run is this one, and behind it stand the others
abbrev pub FirstOf : List ℕ → ℕ → RunPlace → Type 0
FirstOf l p r =
    (n left : ℕ) (rs : List Run) (z : List ℕ) → 0 < left → many (one_run n) left (drop p l) ≡ got rs z
    → (run : Run) × (others : List Run) × (rs ≡ run ∷ others) × RunIs l run r × (many (one_run n) (left - 1) (drop r.end l) ≡ got others z)
