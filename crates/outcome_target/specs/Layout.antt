-- Where the rows of a record are, and where its header counts them.
-- Assumes nothing.
use Rattle.std.specs.Prelude.{ℕ, ◌+◌, ◌-◌, ◌≤◌, List, length}
use Rattle.lists.specs.Lists.{cat}
use Rattle.entries.specs.Entry.{enc_text, enc_prop}
use Rattle.outcome.specs.Head.{header_size}
use Rattle.outcome.specs.State.{State, enc_run}
use Rattle.outcome_target.specs.declared.Layout.{Layout}
use Rattle.outcome_target.specs.declared.Section.{Section}
use Rattle.outcome_target.specs.declared.Section.TheVariants.{Links, Properties, Tags, Runs}

-- where the rows of a state's record begin, and where the last one ends
unfoldable pub layout_of : State → Layout
layout_of s =
    let links = header_size + length s.output + length s.owner + length s.group in
    let properties = links + length (cat enc_text s.links) in
    let tags = properties + length (cat enc_prop s.properties) in
    let runs = tags + length (cat enc_text s.tags) in
    record { links = links; properties = properties; tags = tags; runs = runs; end = runs + length (cat enc_run s.runs) }

abbrev pub start_of : Layout → Section → ℕ
start_of l Links = l.links
start_of l Properties = l.properties
start_of l Tags = l.tags
start_of l Runs = l.runs

abbrev pub end_of : Layout → Section → ℕ
end_of l Links = l.properties
end_of l Properties = l.tags
end_of l Tags = l.runs
end_of l Runs = l.end

-- one row behind the other
pub record Rising (l : Layout) : Type 0 where
  pub header : header_size ≤ l.links
  pub links : l.links ≤ l.properties
  pub properties : l.properties ≤ l.tags
  pub tags : l.tags ≤ l.runs
  pub runs : l.runs ≤ l.end

-- `new` bytes in the place of `old`, in a row
abbrev pub moved_by : Layout → Section → ℕ → ℕ → Layout
moved_by l Links old new = record { links = l.links; properties = l.properties + new - old; tags = l.tags + new - old; runs = l.runs + new - old; end = l.end + new - old }
moved_by l Properties old new = record { links = l.links; properties = l.properties; tags = l.tags + new - old; runs = l.runs + new - old; end = l.end + new - old }
moved_by l Tags old new = record { links = l.links; properties = l.properties; tags = l.tags; runs = l.runs + new - old; end = l.end + new - old }
moved_by l Runs old new = record { links = l.links; properties = l.properties; tags = l.tags; runs = l.runs; end = l.end + new - old }

-- in front of all rows
abbrev pub all_moved : Layout → ℕ → ℕ → Layout
all_moved l old new = record { links = l.links + new - old; properties = l.properties + new - old; tags = l.tags + new - old; runs = l.runs + new - old; end = l.end + new - old }

-- the header's field that counts a row's entries
abbrev pub count_place : Section → ℕ
count_place Links = 67
count_place Properties = 72
count_place Tags = 78
count_place Runs = 83

abbrev pub count_width : Section → ℕ
count_width Links = 5
count_width Properties = 6
count_width Tags = 5
count_width Runs = 5
