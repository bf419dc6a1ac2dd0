-- What joined texts ask of an engine, in one place.
-- Assumes nothing.
use Rattle.std.specs.Prelude.{ℕ, ◌≤◌, ◌≡◌, Bool, List, [], length}
use Rattle.std.specs.Prelude.{Some}
use Rattle.lists.specs.Bytes.{Bytes}
use Rattle.lists.specs.Checked.{ok}
use Rattle.lists.specs.Sizes.{fullest_outcome}
use Rattle.text.specs.Engine.{Engine, skip, rule, went}

pub record Laws (E : Engine) : Type 1 where
  -- an empty line is skipped
  pub empty_line : E.reader.read_line [] ≡ skip
  -- a state that may stand in a record beside a device
  pub Good : E.Device → E.State → Type 0
  -- an accepted record beside an accepted device holds a good state
  pub starts : {d : E.Device} {dev out : List ℕ} {s : E.State} → Bytes out → E.device dev ≡ Some d → E.decode d out ≡ Some s → Good d s
  -- a rule that was read leaves a good state
  pub keeps : {d : E.Device} {l : List ℕ} {r : E.reader.Rule} {s s' : E.State} {held : Bool}
      → E.reader.read_line l ≡ rule r → Good d s → E.step d r s ≡ ok (went s' held) → Good d s'
  -- a good state is read back from its record
  pub again : {d : E.Device} {s : E.State} → Good d s → E.decode d (E.encode s) ≡ Some s
  -- and its record fits the room
  pub fits : {d : E.Device} {s : E.State} → Good d s → length (E.encode s) ≤ fullest_outcome
