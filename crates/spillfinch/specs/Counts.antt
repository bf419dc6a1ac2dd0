-- What the counts that a call of `spillfinch_run` writes keep to.
-- Assumes nothing.
use Rattle.std.specs.Prelude.{ℕ, ◌*◌, ◌≤◌, ◌≡◌, List, length}
use Rattle.std.specs.Prelude.{Some}
use Rattle.lists.specs.Checked.{ok, Placed}
use Rattle.text.specs.Reading.{read_text}
use Rattle.rules.specs.Pair.{Rule}
use Rattle.rules.specs.Reading.{reader}
use Rattle.device.specs.Device.{Device, chain, decode}
use Rattle.spillfinch.specs.Exports.{RunGives}
use Rattle.spillfinch.specs.Joined.{visited_in, tried_in}

pub record Counted (text dev out sheet : List ℕ) (room : ℕ) (written target : List ℕ) : Type 0 where
  -- no more rules are visited than the text has
  pub visited : (rs : List (Placed Rule)) → read_text reader text ≡ ok rs → visited_in written ≤ length rs
  -- document 02, Item 9: for each of them no more devices are tried than the chain has
  pub tried : (d : Device) → decode dev ≡ Some d → tried_in written ≤ visited_in written * length (chain d)

-- of every call, refused or not
abbrev pub Counts : Type 0
Counts = (text dev out sheet : List ℕ) (room : ℕ) (written target : List ℕ) → RunGives text dev out sheet room written target → Counted text dev out sheet room written target
