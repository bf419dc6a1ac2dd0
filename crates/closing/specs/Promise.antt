-- Document 02, Item 13: what is shown of every key that closes.
-- Assumes nothing.
use Rattle.std.specs.Prelude.{ℕ, ◌≡◌, true, List, take}
use Rattle.std.specs.Prelude.{Some}
use Rattle.lists.specs.Bytes.{Bytes}
use Rattle.lists.specs.Checked.{ok, Placed}
use Rattle.rules.specs.Pair.{Rule}
use Rattle.rules.specs.Reading.{reader}
use Rattle.device.specs.Device as D
use Rattle.device.specs.Device.{Device}
use Rattle.outcome.specs.State.{State}
use Rattle.text.specs.Lines.{newlines}
use Rattle.text.specs.Reading.{read_text}
use Rattle.text.specs.Run.{Answer}
use Rattle.sheet.specs.Sheet as Sheets
use Rattle.sheet.specs.Sheet.{Sheet}
use Rattle.engine.specs.Operations.{decode_for, run}
use Rattle.closing.specs.Closing.{ClosingKey, is_closed, Same}
use Rattle.closing.specs.Dropping.{drop_text}

-- an answer but for its visited count
pub record Given : Type 0 where
  pub number : ℕ
  pub line : ℕ
  pub tried : ℕ
  pub used : ℕ
  pub bytes : List ℕ

abbrev pub given : Answer → Given
given a = record { number = a.number; line = a.line; tried = a.tried; used = a.used; bytes = a.bytes }

-- a text that reading does not refuse
abbrev pub Accepted : List ℕ → Type 0
Accepted t = (rs : List (Placed Rule)) × (read_text reader t ≡ ok rs)

pub record ClosedStays (k : ClosingKey) (text dev out sheet : List ℕ) (d : Device) (s : State) (room : ℕ) : Type 0 where
  -- a run that is not refused leaves what stands under the key
  pub kept : (run text dev out sheet room).number ≡ 0
      → (s' : State) × (decode_for d (take (run text dev out sheet room).used (run text dev out sheet room).bytes) ≡ Some s') × Same k s s'
  -- the text without the assignments to the key is accepted, has the same newlines, and gives the same but for the visited count
  pub accepted : Accepted (drop_text k text)
  pub lines : newlines (drop_text k text) ≡ newlines text
  pub dropped : given (run (drop_text k text) dev out sheet room) ≡ given (run text dev out sheet room)

-- whatever is run, wherever it starts, as long as the check accepts the text and the key is closed there
pub record ClosedMeansClosed : Type 0 where
  pub shown : (k : ClosingKey) (text dev out sheet : List ℕ) (d : Device) (s : State) (a : Sheet) (room : ℕ) → Accepted text → Bytes out → Bytes sheet
      → D.decode dev ≡ Some d → decode_for d out ≡ Some s → Sheets.decode sheet ≡ Some a → is_closed k s ≡ true → ClosedStays k text dev out sheet d s room
