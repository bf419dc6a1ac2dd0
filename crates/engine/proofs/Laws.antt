-- The engine meets the laws of the text level, so the demand on joined texts holds of it.
-- Assumes nothing.
use Prim.Native.Nat.{ℕ, ◌≤◌}
use mathlib.Core.Path.{◌≡◌, refl}
use mathlib.Core.Bool.{Bool}
use mathlib.Core.List.{List, []}
use Rattle.std.specs.Prelude.{Some}
use lib.ListN.{length}
use Rattle.lists.specs.Bytes.{Bytes}
use Rattle.lists.specs.Runs.{span}
use Rattle.device.specs.Device as D
use Rattle.device.specs.Device.{Device, chain}
use Rattle.lists.specs.Checked.{refused, ok}
use Rattle.text.specs.Running.{Ran}
use Rattle.text.specs.Run as generic
use Rattle.sheet.specs.Sheet as Sheets
use Rattle.sheet.specs.Sheet.{Sheet}
use Rattle.sheet.proofs.RoundTrip as sheets
use Rattle.lists.specs.Sizes.{fullest_outcome}
use Rattle.outcome.specs.State as O
use Rattle.outcome.specs.State.{State}
use Rattle.outcome.proofs.RoundTrip.{there, back}
use Rattle.outcome.proofs.Fits.{fits}
use Rattle.rules.specs.Pair.{Rule}
use Rattle.rules.specs.Reading.{read_line}
use Rattle.text.specs.Engine.{skip, rule, went}
use Rattle.text.specs.Laws.{Laws}
use Rattle.text.specs.Demand.{Demand3}
use Rattle.text.proofs.Demand.{demand3}
use Rattle.engine.specs.Step.{step}
use Rattle.engine.specs.Operations.{decode_for, engine, run_checked, ran, run}
use Rattle.device.proofs.Sound as device
use Rattle.rules.proofs.Sound.{rule-sound}
use Rattle.engine.proofs.Keeps.{step_good}

-- a state beside a device: both may stand in a record
abbrev pub Fine : Device → State → Type 0
Fine d s = device.Sound d × O.Good (length (chain d)) s

empty_skipped : read_line [] ≡ skip
unfolding read_line span
empty_skipped = refl

starts : (d : Device) (dev out : List ℕ) (s : State) → Bytes out → D.decode dev ≡ Some d → decode_for d out ≡ Some s → Fine d s
unfolding decode_for
starts d dev out s by is at = (device.device_sound dev d is, (back (length (chain d)) out s by at).1)

keeps : (a : Sheet) → Sheets.Good a → (d : Device) (l : List ℕ) (r : Rule) (s s' : State) (held : Bool) → read_line l ≡ rule r → Fine d s → step a d r s ≡ ok (went s' held) → Fine d s'
keeps a ag d l r s s' held e (dg, g) w =
    (dg, step_good d dg a ag.each r s s' held (rule-sound l r e) g w)

again : (d : Device) (s : State) → Fine d s → decode_for d (O.encode s) ≡ Some s
unfolding decode_for
again d s (dg, g) = there (length (chain d)) s g

small : (d : Device) (s : State) → Fine d s → length (O.encode s) ≤ fullest_outcome
small d s (dg, g) = fits (length (chain d)) s g

pub engine-laws : (a : Sheet) → Sheets.Good a → Laws (engine a)
engine-laws a ag =
    record {
      empty_line = empty_skipped;
      Good = Fine;
      starts = λ {d} {dev} {out} {s} by is at. starts d dev out s by is at;
      keeps = λ {d} {l} {r} {s} {s'} {held} e g w. keeps a ag d l r s s' held e g w;
      again = λ {d} {s} g. again d s g;
      fits = λ {d} {s} g. small d s g;
    }

-- what the laws call good, beside a device
pub engine_good : (a : Sheet) (ag : Sheets.Good a) (d : Device) (s : State) → (engine-laws a ag).Good d s → O.Good (length (chain d)) s
unfolding engine-laws
engine_good a ag d s g = g.1

-- the demand on joined texts, of this engine with any one answer sheet
pub engine_demand3 : (a : Sheet) → Sheets.Good a → Demand3 (engine a)
engine_demand3 a ag = demand3 (engine a) (engine-laws a ag)

-- ---- the run with the bytes of a sheet

ran-answer : (a : Sheet) (room : ℕ) (c : Ran State) → ran room c ≡ generic.answer (engine a) room c
unfolding ran generic.answer
ran-answer a room (refused f) = refl
ran-answer a room (ok h) = refl

-- with a sound sheet the public run is the run that the demand speaks of
pub run_is : (text dev out sheet : List ℕ) (room : ℕ) (a : Sheet) → Sheets.decode sheet ≡ Some a → run text dev out sheet room ≡ generic.run (engine a) text dev out room
unfolding run run_checked generic.run generic.run_checked
run_is text dev out sheet room a e = rw e (ran-answer a room (generic.run_checked (engine a) text dev out room))

-- document 02, Item 6: the demand on joined texts, for one sheet in all runs
pub record OneSheet (sheet : List ℕ) : Type 1 where
  pub answers : Sheet
  pub demand : Demand3 (engine answers)
  pub same : (text dev out : List ℕ) (room : ℕ) → run text dev out sheet room ≡ generic.run (engine answers) text dev out room

pub one_sheet : (sheet : List ℕ) (a : Sheet) → Bytes sheet → Sheets.decode sheet ≡ Some a → OneSheet sheet
one_sheet sheet a by e =
    record {
      answers = a;
      demand = engine_demand3 a (sheets.back sheet a by e).good;
      same = λ text dev out room. run_is text dev out sheet room a e;
    }
