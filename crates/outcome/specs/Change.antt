-- A state with one part anew, and with a key closed.
-- Assumes nothing.
use Rattle.std.specs.Prelude.{ℕ, true, List}
use Rattle.std.specs.Prelude.{Some}
use Rattle.entries.specs.Entry.{Property}
use Rattle.outcome.specs.Head.{Closed}
use Rattle.outcome.specs.State.{Run, State}

abbrev pub with_closed : State → Closed → State
with_closed s c = record { closed = c; owner = s.owner; group = s.group; mode = s.mode; priority = s.priority; output = s.output; watch = s.watch; links = s.links; properties = s.properties; tags = s.tags; runs = s.runs }

abbrev pub with_owner : State → List ℕ → State
with_owner s x = record { closed = s.closed; owner = x; group = s.group; mode = s.mode; priority = s.priority; output = s.output; watch = s.watch; links = s.links; properties = s.properties; tags = s.tags; runs = s.runs }

abbrev pub with_group : State → List ℕ → State
with_group s x = record { closed = s.closed; owner = s.owner; group = x; mode = s.mode; priority = s.priority; output = s.output; watch = s.watch; links = s.links; properties = s.properties; tags = s.tags; runs = s.runs }

abbrev pub with_mode : State → ℕ → State
with_mode s m = record { closed = s.closed; owner = s.owner; group = s.group; mode = Some m; priority = s.priority; output = s.output; watch = s.watch; links = s.links; properties = s.properties; tags = s.tags; runs = s.runs }

abbrev pub with_priority : State → ℕ → State
with_priority s n = record { closed = s.closed; owner = s.owner; group = s.group; mode = s.mode; priority = n; output = s.output; watch = s.watch; links = s.links; properties = s.properties; tags = s.tags; runs = s.runs }

abbrev pub with_links : State → List (List ℕ) → State
with_links s ls = record { closed = s.closed; owner = s.owner; group = s.group; mode = s.mode; priority = s.priority; output = s.output; watch = s.watch; links = ls; properties = s.properties; tags = s.tags; runs = s.runs }

abbrev pub with_properties : State → List Property → State
with_properties s ps = record { closed = s.closed; owner = s.owner; group = s.group; mode = s.mode; priority = s.priority; output = s.output; watch = s.watch; links = s.links; properties = ps; tags = s.tags; runs = s.runs }

abbrev pub with_tags : State → List (List ℕ) → State
with_tags s ts = record { closed = s.closed; owner = s.owner; group = s.group; mode = s.mode; priority = s.priority; output = s.output; watch = s.watch; links = s.links; properties = s.properties; tags = ts; runs = s.runs }

abbrev pub with_runs : State → List Run → State
with_runs s rs = record { closed = s.closed; owner = s.owner; group = s.group; mode = s.mode; priority = s.priority; output = s.output; watch = s.watch; links = s.links; properties = s.properties; tags = s.tags; runs = rs }

-- document 02, Item 5
abbrev pub with_output : State → List ℕ → State
with_output s x = record { closed = s.closed; owner = s.owner; group = s.group; mode = s.mode; priority = s.priority; output = x; watch = s.watch; links = s.links; properties = s.properties; tags = s.tags; runs = s.runs }

abbrev pub with_watch : State → ℕ → State
with_watch s n = record { closed = s.closed; owner = s.owner; group = s.group; mode = s.mode; priority = s.priority; output = s.output; watch = n; links = s.links; properties = s.properties; tags = s.tags; runs = s.runs }

-- ---- a key closed

abbrev pub shut_links : Closed → Closed
shut_links c = record { links = true; tags = c.tags; runs = c.runs; owner = c.owner; group = c.group; mode = c.mode }

abbrev pub shut_tags : Closed → Closed
shut_tags c = record { links = c.links; tags = true; runs = c.runs; owner = c.owner; group = c.group; mode = c.mode }

abbrev pub shut_runs : Closed → Closed
shut_runs c = record { links = c.links; tags = c.tags; runs = true; owner = c.owner; group = c.group; mode = c.mode }

abbrev pub shut_owner : Closed → Closed
shut_owner c = record { links = c.links; tags = c.tags; runs = c.runs; owner = true; group = c.group; mode = c.mode }

abbrev pub shut_group : Closed → Closed
shut_group c = record { links = c.links; tags = c.tags; runs = c.runs; owner = c.owner; group = true; mode = c.mode }

abbrev pub shut_mode : Closed → Closed
shut_mode c = record { links = c.links; tags = c.tags; runs = c.runs; owner = c.owner; group = c.group; mode = true }
