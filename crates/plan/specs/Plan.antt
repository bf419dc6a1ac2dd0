-- Document 02, Item 14: when a rules text names devices as wanted, when a plan is due, and the text that is planned.
-- Assumes nothing.
use Rattle.std.specs.Prelude.{ℕ, Bool, false, ◌&&◌, ◌||◌, List, [], ◌∷◌, ◌++◌, map, leb, length}
use Rattle.lists.specs.Lists.{all, cat}
use Rattle.lists.specs.Bytes.{is_letter, is_digit, same_bytes, holds, distinct}
use Rattle.lists.specs.Quoted.{bytes}
use Rattle.lists.specs.Checked.{refused, ok}
use Rattle.lists.specs.Sizes.{fullest_outcome}
use Rattle.device.specs.Device.{Device}
use Rattle.outcome.specs.Content.{ok_name}
use Rattle.outcome.specs.State as outcome
use Rattle.outcome.specs.State.{State}
use Rattle.text.specs.Running.{Ran}
use Rattle.sheet.specs.Sheet as sheet
use Rattle.sheet.specs.Sheet.{Sheet}
use Rattle.engine.specs.Assign.{link_byte}
use Rattle.engine.specs.Operations.{run_checked}

-- a device, the record that it was read from, and the link that it is to have
pub record Naming : Type 0 where
  pub bytes_lent : List ℕ
  pub device : Device
  pub link : List ℕ

abbrev pub path_of : Naming → List ℕ
path_of n = n.device.event.path

abbrev pub link_of : Naming → List ℕ
link_of n = n.link

-- ---- the checker

-- one link and no other
abbrev pub only : List ℕ → List (List ℕ) → Bool
only x [] = false
only x (y ∷ []) = same_bytes y x
only x (y ∷ z ∷ ys) = false

-- a run that is not refused ends with that link
abbrev pub ends_with : List ℕ → Ran State → Bool
ends_with x (refused f) = false
ends_with x (ok h) = only x h.state.links

-- no command is answered: a rule that asks for one is refused with 35
abbrev pub unanswered : Sheet
unanswered = []

-- a text run on a device from its fresh record, with that sheet
abbrev pub run_fresh : List ℕ → Naming → Ran State
run_fresh text n = run_checked text n.bytes_lent (outcome.encode (outcome.fresh n.device)) (sheet.encode unanswered) fullest_outcome

abbrev pub names : List ℕ → Naming → Bool
names text n = ends_with n.link (run_fresh text n)

-- it names every device as wanted
abbrev pub accepts : List Naming → List ℕ → Bool
accepts ns text = all (names text) ns

-- ---- the planner

abbrev pub most_plan_path : ℕ
most_plan_path = 128

-- a byte of a path that a plan can speak of: letters, digits and `/:.◌-`
abbrev pub plan_byte : ℕ → Bool
plan_byte b = is_letter b || (is_digit b || holds b (47 ∷ 58 ∷ 46 ∷ 95 ∷ 45 ∷ []))

abbrev pub plan_path : List ℕ → Bool
plan_path p = leb (length p) most_plan_path && all plan_byte p

-- a link that it can speak of: clean already, and past check 31
abbrev pub plan_link : List ℕ → Bool
plan_link x = all link_byte x && ok_name x

abbrev pub plan_naming : Naming → Bool
plan_naming n = plan_path (path_of n) && plan_link n.link

-- event paths differ, wanted links differ, and a plan can speak of each of both
abbrev pub due : List Naming → Bool
due ns = distinct (map path_of ns) && (distinct (map link_of ns) && all plan_naming ns)

-- a rule for each device, told by its path
unfoldable pub plan_rule : List ℕ → List ℕ → List ℕ
unfolding bytes
plan_rule path link = bytes "DEVPATH==\"" ++ (path ++ (bytes "\",SYMLINK=\"" ++ (link ++ bytes "\"")))

unfoldable pub plan_text : List Naming → List ℕ
plan_text ns = cat (λ n. plan_rule (path_of n) n.link ++ (10 ∷ [])) ns
