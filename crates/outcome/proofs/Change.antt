-- A good state with one part anew is good.
-- Assumes nothing.
use Prim.Native.Nat.{ℕ, ◌<◌, ◌≤◌}
use mathlib.Core.Path.{◌≡◌}
use mathlib.Core.Bool.{true}
use mathlib.Core.List.{List}
use Rattle.lists.specs.Sizes.{most_links, most_tags}
use Rattle.entries.specs.Entry.{Property}
use Rattle.outcome.specs.Content.{ok_link, ok_owner, ok_output}
use Rattle.outcome.specs.Head.{Closed}
use Rattle.outcome.specs.State.{Run, State, ModeBits, ok_tag, Entries, Properties, Runs, Good}
use Rattle.outcome.specs.Change.{with_closed, with_owner, with_group, with_mode, with_priority, with_output, with_watch, with_links, with_properties, with_tags, with_runs}

module _ (n : ℕ) (s : State) (g : Good n s) where
  pub closed_good : (c : Closed) → Good n (with_closed s c)
  closed_good c =
      record {
        owner = g.owner;
        group = g.group;
        mode = g.mode;
        priority = g.priority;
        output = g.output;
        watch = g.watch;
        links = g.links;
        properties = g.properties;
        tags = g.tags;
        runs = g.runs;
      }

  pub owner_good : (x : List ℕ) → ok_owner x ≡ true → Good n (with_owner s x)
  owner_good x h =
      record {
        owner = h;
        group = g.group;
        mode = g.mode;
        priority = g.priority;
        output = g.output;
        watch = g.watch;
        links = g.links;
        properties = g.properties;
        tags = g.tags;
        runs = g.runs;
      }

  pub group_good : (x : List ℕ) → ok_owner x ≡ true → Good n (with_group s x)
  group_good x h =
      record {
        owner = g.owner;
        group = h;
        mode = g.mode;
        priority = g.priority;
        output = g.output;
        watch = g.watch;
        links = g.links;
        properties = g.properties;
        tags = g.tags;
        runs = g.runs;
      }

  pub mode_good : (m : ℕ) → ModeBits m → Good n (with_mode s m)
  mode_good m h =
      record {
        owner = g.owner;
        group = g.group;
        mode = h;
        priority = g.priority;
        output = g.output;
        watch = g.watch;
        links = g.links;
        properties = g.properties;
        tags = g.tags;
        runs = g.runs;
      }

  pub priority_good : (z : ℕ) → z < 4294967296 → Good n (with_priority s z)
  priority_good z h =
      record {
        owner = g.owner;
        group = g.group;
        mode = g.mode;
        priority = h;
        output = g.output;
        watch = g.watch;
        links = g.links;
        properties = g.properties;
        tags = g.tags;
        runs = g.runs;
      }

  pub links_good : (ls : List (List ℕ)) → Entries most_links ok_link ls → Good n (with_links s ls)
  links_good ls h =
      record {
        owner = g.owner;
        group = g.group;
        mode = g.mode;
        priority = g.priority;
        output = g.output;
        watch = g.watch;
        links = h;
        properties = g.properties;
        tags = g.tags;
        runs = g.runs;
      }

  pub properties_good : (ps : List Property) → Properties ps → Good n (with_properties s ps)
  properties_good ps h =
      record {
        owner = g.owner;
        group = g.group;
        mode = g.mode;
        priority = g.priority;
        output = g.output;
        watch = g.watch;
        links = g.links;
        properties = h;
        tags = g.tags;
        runs = g.runs;
      }

  pub tags_good : (ts : List (List ℕ)) → Entries most_tags ok_tag ts → Good n (with_tags s ts)
  tags_good ts h =
      record {
        owner = g.owner;
        group = g.group;
        mode = g.mode;
        priority = g.priority;
        output = g.output;
        watch = g.watch;
        links = g.links;
        properties = g.properties;
        tags = h;
        runs = g.runs;
      }

  pub runs_good : (rs : List Run) → Runs n rs → Good n (with_runs s rs)
  runs_good rs h =
      record {
        owner = g.owner;
        group = g.group;
        mode = g.mode;
        priority = g.priority;
        output = g.output;
        watch = g.watch;
        links = g.links;
        properties = g.properties;
        tags = g.tags;
        runs = h;
      }

  pub output_good : (x : List ℕ) → ok_output x ≡ true → Good n (with_output s x)
  output_good x h =
      record {
        owner = g.owner;
        group = g.group;
        mode = g.mode;
        priority = g.priority;
        output = h;
        watch = g.watch;
        links = g.links;
        properties = g.properties;
        tags = g.tags;
        runs = g.runs;
      }

  pub watch_good : (w : ℕ) → w ≤ 2 → Good n (with_watch s w)
  watch_good w h =
      record {
        owner = g.owner;
        group = g.group;
        mode = g.mode;
        priority = g.priority;
        output = g.output;
        watch = h;
        links = g.links;
        properties = g.properties;
        tags = g.tags;
        runs = g.runs;
      }
