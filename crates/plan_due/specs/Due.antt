-- What a plan asks of one device, and of one beside others.
-- Assumes nothing.
use Rattle.std.specs.Prelude.{ℕ, ◌≡◌, Bool, not, ◌&&◌, ◌||◌, List, map, length}
use Rattle.lists.specs.Bytes.{is_letter, is_digit, holds, same_bytes, among}
use Rattle.plan.specs.Plan.{Naming, path_of, link_of, plan_path, plan_link}
use Rattle.plan_rows.specs.Namings.{Standing}

-- a letter, a digit or one of these marks
abbrev pub is_fair : List ℕ → ℕ → Bool
is_fair marks b = is_letter b || (is_digit b || holds b marks)

abbrev pub planned : List ℕ → List ℕ → Bool
planned path link = plan_path path && plan_link link

-- a path and a link beside those of another device
abbrev pub differs : List ℕ → List ℕ → List ℕ → List ℕ → Bool
differs path link other wanted = not (same_bytes path other) && not (same_bytes link wanted)

-- a path and a link beside those of all others
abbrev pub apart : List ℕ → List ℕ → List Naming → Bool
apart path link ns = not (among path (map path_of ns)) && not (among link (map link_of ns))

-- n devices stand from a place on
pub record Stands (set : List ℕ) (p n : ℕ) : Type 0 where
  pub namings : List Naming
  pub standing : Standing set p namings
  pub counted : length namings ≡ n
