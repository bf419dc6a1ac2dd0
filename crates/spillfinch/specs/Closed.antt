-- Document 02, Item 13, of the exported function: what calls of `spillfinch_run` write where a key is closed in the record that they start from.
-- Assumes nothing.
use Rattle.std.specs.Prelude.{ℕ, ◌≡◌, true, List, ◌++◌, take, drop}
use Rattle.std.specs.Prelude.{Some}
use Rattle.lists.specs.Bytes.{Bytes}
use Rattle.text.specs.Lines.{newlines}
use Rattle.device.specs.Device.{Device}
use Rattle.outcome.specs.State.{State}
use Rattle.sheet.specs.Sheet.{Sheet, decode}
use Rattle.engine.specs.Operations.{decode_for}
use Rattle.closing.specs.Closing.{ClosingKey, is_closed, Same}
use Rattle.closing.specs.Dropping.{drop_text}
use Rattle.spillfinch.specs.Exports.{RunGives}
use Rattle.spillfinch.specs.Joined.{number_in, Checked, Sound}
use Rattle.spillfinch.specs.Converted.{left_in}

-- all numbers of an answer but the visited count
abbrev pub but_visited : List ℕ → List ℕ
but_visited written = take 2 written ++ drop 3 written

-- of a call beside a device, from a record in which the key is closed
pub record StaysClosed (k : ClosingKey) (text dev out sheet : List ℕ) (d : Device) (s : State) (room : ℕ) (written target : List ℕ) : Type 0 where
  -- if it is not refused, the record that it leaves holds under the key what the first one held, and the key is closed as it was
  pub kept : number_in written ≡ 0 → (s' : State) × (decode_for d (left_in written target) ≡ Some s') × Same k s s'
  -- the check accepts the text without the assignments to the key, which has as many newlines
  pub accepted : Checked (drop_text k text)
  pub lines : newlines (drop_text k text) ≡ newlines text
  -- a call for it writes the same target and the same numbers, but for the visited count
  pub dropped : (written' target' : List ℕ) → RunGives (drop_text k text) dev out sheet room written' target'
      → (but_visited written' ≡ but_visited written) × (target' ≡ target)

-- of every call for a text that the check accepts, with sound records and a sound sheet, for each of the six keys
abbrev pub Closed : Type 0
Closed = (k : ClosingKey) (text dev out sheet : List ℕ) (a : Sheet) (room : ℕ) (written target : List ℕ) → Checked text → (x : Sound dev out)
    → Bytes sheet → decode sheet ≡ Some a → is_closed k x.state ≡ true → RunGives text dev out sheet room written target
    → StaysClosed k text dev out sheet x.device x.state room written target
