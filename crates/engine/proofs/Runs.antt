-- Every answer of a run has as many bytes as the target, with a sound sheet or not.
-- Assumes nothing.
use Prim.Native.Nat.{ℕ}
use mathlib.Core.Path.{◌≡◌, refl, ap, ◌∙◌}
use mathlib.Core.List.{List}
use Rattle.std.specs.Prelude.{Option, None, Some}
use lib.Dec.{leb}
use lib.ListN.{length, length-replicate}
use Rattle.lists.specs.Bytes.{Bytes}
use Rattle.lists.specs.Checked.{Checked, refused, ok, require, found, Holds, Placed, line}
use Rattle.lists.specs.Refusal.{Refusal, target_short, device_bad, outcome_bad}
use Rattle.lists.specs.Sizes.{fullest_outcome}
use Rattle.lists.proofs.Checked.{holds-bind, holds-seq}
use Rattle.rules.specs.Pair.{Rule}
use Rattle.rules.specs.Reading.{reader}
use Rattle.device.specs.Device as D
use Rattle.device.specs.Device.{Device}
use Rattle.outcome.specs.State.{State}
use Rattle.sheet.specs.Sheet as Sheets
use Rattle.sheet.specs.Sheet.{Sheet}
use Rattle.sheet.proofs.RoundTrip as sheets
use Rattle.text.specs.Reading.{read_text}
use Rattle.text.specs.Running.{Halt, Ran}
use Rattle.text.specs.Run.{Answer}
use Rattle.text.proofs.Sanity as sanity
use Rattle.engine.specs.Operations.{decode_for, engine, run_checked, ran, run}
use Rattle.engine.proofs.Laws.{engine-laws, run_is}

trivial : {A : Type 0} (c : Checked (Placed Refusal) A) → Holds (λ (_ : A). Unit {0}) c
trivial (refused f) = tt
trivial (ok a) = tt

module _ (text dev out sheet : List ℕ) (room : ℕ) where
  abbrev Never : Halt State → Type 0
  Never h = ⊥

  -- a faulty sheet refuses whatever is lent beside it
  faulty-refused : Sheets.decode sheet ≡ None → Holds Never (run_checked text dev out sheet room)
  unfolding run_checked
  faulty-refused e =
      holds-seq (λ (_ : Unit {0}). Unit {0}) Never (require (leb fullest_outcome room) (line 0 target_short)) _ (trivial (require (leb fullest_outcome room) (line 0 target_short)))
      (λ _ _. holds-bind (λ (_ : List (Placed Rule)). Unit {0}) Never (read_text reader text) _ (trivial (read_text reader text))
      (λ rs _. holds-bind (λ (_ : Device). Unit {0}) Never (found (D.decode dev) (line 0 device_bad)) _ (trivial (found (D.decode dev) (line 0 device_bad)))
      (λ d _. holds-bind (λ (_ : State). Unit {0}) Never (found (decode_for d out) (line 0 outcome_bad)) _ (trivial (found (decode_for d out) (line 0 outcome_bad)))
      (λ s _. rw e tt))))

  refused-length : (c : Ran State) → Holds Never c → length (ran room c).bytes ≡ room
  unfolding ran
  refused-length (refused (line n f)) h = length-replicate room 0
  refused-length (ok x) h = absurd h

  pub run_length : Bytes out → Bytes sheet → length (run text dev out sheet room).bytes ≡ room
  unfolding run
  run_length by bs = at (Sheets.decode sheet) refl
    where
      at : (o : Option Sheet) → Sheets.decode sheet ≡ o → length (run text dev out sheet room).bytes ≡ room
      at None e = refused-length (run_checked text dev out sheet room) (faulty-refused e)
      at (Some a) e =
          ap (λ (x : Answer). length x.bytes) (run_is text dev out sheet room a e)
          ∙ sanity.run_length (engine a) (engine-laws a (sheets.back sheet a bs e).good) text dev out room by
