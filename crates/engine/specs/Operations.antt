-- Document 01, Numbers given back: the public operations as full answers: a fresh record, a run, a close.
-- Assumes nothing.
use Rattle.std.specs.Prelude.{ℕ, Bool, false, List, [], ◌∷◌, ◌++◌, leb, length}
use Rattle.std.specs.Prelude.{Option}
use Rattle.lists.specs.Lists.{cat}
use Rattle.lists.specs.Checked.{Checked, refused, ok, ◌>>=◌, ◌>>◌, require, found, Placed, line, on_line}
use Rattle.lists.specs.Refusal.{Refusal, target_short, device_bad, outcome_bad, sheet_bad}
use Rattle.lists.specs.Sizes.{fullest_outcome, fullest_run_list}
use Rattle.bits.specs.Fields.{Field, packed, bit}
use Rattle.entries.specs.Entry.{Property}
use Rattle.rules.specs.Reading.{reader}
use Rattle.device.specs.Device as D
use Rattle.device.specs.Device.{Device, chain}
use Rattle.outcome.specs.State as O
use Rattle.outcome.specs.State.{State, Run}
use Rattle.text.specs.Engine.{Engine}
use Rattle.text.specs.Reading.{read_text}
use Rattle.text.specs.Running.{Ran, next, run_from}
use Rattle.sheet.specs.Sheet as Sheets
use Rattle.sheet.specs.Sheet.{Sheet}
use Rattle.text.specs.Run.{Answer, refusal, acceptance}
use Rattle.engine.specs.Substitute.{filled}
use Rattle.engine.specs.Match.{tried}
use Rattle.engine.specs.Step.{step}

-- a record beside a device
unfoldable pub decode_for : Device → List ℕ → Option State
decode_for d out = O.decode (length (chain d)) out

-- for each answer sheet (document 02, Item 6) an engine; they differ in what a rule does
abbrev pub engine : Sheet → Engine
engine a =
    record {
      reader = reader;
      Device = Device;
      State = State;
      device = D.decode;
      decode = decode_for;
      encode = O.encode;
      step = step a;
      tried = tried;
    }

-- ---- the run: 1; 2 and 10 to 20; 3; 4; 6; then 30 and up in running order
unfoldable pub run_checked : List ℕ → List ℕ → List ℕ → List ℕ → ℕ → Ran State
run_checked text dev out sheet room = do
  require (leb fullest_outcome room) (line 0 target_short)
  rs ← read_text reader text
  d ← found (D.decode dev) (line 0 device_bad)
  s ← found (decode_for d out) (line 0 outcome_bad)
  a ← found (Sheets.decode sheet) (line 0 sheet_bad)
  run_from (engine a) d next s rs

-- what is given back for a run
unfoldable pub ran : ℕ → Ran State → Answer
ran room (refused f) = refusal room f
ran room (ok h) = acceptance room h.visited h.tried (O.encode h.state)

unfoldable pub run : List ℕ → List ℕ → List ℕ → List ℕ → ℕ → Answer
run text dev out sheet room = ran room (run_checked text dev out sheet room)

-- what is given back for a record made without visiting a rule
abbrev pub given : ℕ → Checked (Placed Refusal) (List ℕ) → Answer
given room (refused f) = refusal room f
given room (ok made) = acceptance room 0 0 made

-- ---- the fresh record: 1, 3
unfoldable pub fresh_checked : List ℕ → ℕ → Checked (Placed Refusal) (List ℕ)
fresh_checked dev room = do
  require (leb fullest_outcome room) (line 0 target_short)
  d ← found (D.decode dev) (line 0 device_bad)
  ok (O.encode (O.fresh d))

unfoldable pub fresh : List ℕ → ℕ → Answer
fresh dev room = given room (fresh_checked dev room)

-- ---- the close: 1, 3, 4, 30, all with line 0

-- an entry of the run list
pub record Command : Type 0 where
  pub builtin : Bool
  pub text : List ℕ

-- its head: builtin 1, length 10, unused 5
abbrev pub command_fields : Command → List Field
command_fields c = (1, bit c.builtin) ∷ (10, length c.text) ∷ (5, 0) ∷ []

-- its head, then the text
abbrev pub enc_command : Command → List ℕ
enc_command c = packed (command_fields c) ++ c.text

-- the list's head: count 5, unused 3
abbrev pub list_fields : List Command → List Field
list_fields cs = (5, length cs) ∷ (3, 0) ∷ []

-- its head, then the entries
unfoldable pub run_list : List Command → List ℕ
run_list cs = packed (list_fields cs) ++ cat enc_command cs

-- each template substituted with the properties and the output that the record holds at the end, in the list's order
unfoldable pub commands : Device → List Property → List ℕ → List Run → Checked Refusal (List Command)
commands d ps x [] = ok []
commands d ps x (r ∷ rs) = do
  t ← filled false (record { device = d; place = r.place; properties = ps; output = x }) r.template
  cs ← commands d ps x rs
  ok (record { builtin = r.builtin; text = t } ∷ cs)

unfoldable pub close_checked : List ℕ → List ℕ → ℕ → Checked (Placed Refusal) (List ℕ)
close_checked dev out room = do
  require (leb fullest_run_list room) (line 0 target_short)
  d ← found (D.decode dev) (line 0 device_bad)
  s ← found (decode_for d out) (line 0 outcome_bad)
  cs ← on_line 0 (commands d s.properties s.output s.runs)
  ok (run_list cs)

unfoldable pub close : List ℕ → List ℕ → ℕ → Answer
close dev out room = given room (close_checked dev out room)
