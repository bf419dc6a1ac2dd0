-- The counts of every call of `spillfinch_run` keep within their bounds.
-- Assumes nothing.
use Prim.Native.Nat.{ℕ, ◌*◌, ◌≤◌, zero-le}
use mathlib.Core.Path.{◌≡◌, sym, subst}
use mathlib.Core.List.{List}
use Rattle.std.specs.Prelude.{Some}
use lib.Dec.{leb}
use lib.ListN.{length}
use Rattle.lists.specs.Checked.{Checked, refused, ok, require, found, Holds, Placed, line}
use Rattle.lists.specs.Refusal.{Refusal, target_short, device_bad, outcome_bad, sheet_bad}
use Rattle.lists.specs.Sizes.{fullest_outcome}
use Rattle.lists.proofs.Checked.{holds-bind, holds-seq}
use Rattle.text.specs.Reading.{read_text}
use Rattle.text.specs.Running.{next, Halt, Ran}
use Rattle.text.proofs.Sanity.{visited_few}
use Rattle.rules.specs.Pair.{Rule}
use Rattle.rules.specs.Reading.{reader}
use Rattle.device.specs.Device as D
use Rattle.device.specs.Device.{Device, chain}
use Rattle.outcome.specs.State.{State}
use Rattle.sheet.specs.Sheet as Sheets
use Rattle.sheet.specs.Sheet.{Sheet}
use Rattle.engine.specs.Operations.{decode_for, engine, run_checked, ran, run}
use Rattle.engine.proofs.Tried.{run-tried}
use Rattle.spillfinch.specs.Exports.{RunGives}
use Rattle.spillfinch.specs.Counts.{Counted, Counts}

-- nothing is asked
holds-any : {A : Type 0} (c : Checked (Placed Refusal) A) → Holds (λ (_ : A). Unit {0}) c
holds-any (refused f) = tt
holds-any (ok a) = tt

answer_few : (n room : ℕ) (c : Ran State) → Holds (λ (h : Halt State). h.visited ≤ n) c → (ran room c).visited ≤ n
unfolding ran
answer_few n room (refused (line k f)) h = zero-le
answer_few n room (ok a) h = h

module _ (text dev out sheet : List ℕ) (room : ℕ) (rs : List (Placed Rule)) (is : read_text reader text ≡ ok rs) where
  abbrev Few : Halt State → Type 0
  Few h = h.visited ≤ length rs

  run_few : Holds Few (run_checked text dev out sheet room)
  unfolding run_checked
  run_few =
      holds-seq (λ (_ : Unit {0}). Unit {0}) Few (require (leb fullest_outcome room) (line 0 target_short)) _ (holds-any (require (leb fullest_outcome room) (line 0 target_short)))
      (λ _ _. rw is
      (holds-bind (λ (_ : Device). Unit {0}) Few (found (D.decode dev) (line 0 device_bad)) _ (holds-any (found (D.decode dev) (line 0 device_bad)))
      (λ d _. holds-bind (λ (_ : State). Unit {0}) Few (found (decode_for d out) (line 0 outcome_bad)) _ (holds-any (found (decode_for d out) (line 0 outcome_bad)))
      (λ s _. holds-bind (λ (_ : Sheet). Unit {0}) Few (found (Sheets.decode sheet) (line 0 sheet_bad)) _ (holds-any (found (Sheets.decode sheet) (line 0 sheet_bad)))
      (λ a _. visited_few (engine a) d rs next s)))))

  run_visited : (run text dev out sheet room).visited ≤ length rs
  unfolding run
  run_visited = answer_few (length rs) room (run_checked text dev out sheet room) run_few

pub calls_counted : Counts
calls_counted text dev out sheet room written target (w, b) = record {
  visited = λ rs is. rw w (run_visited text dev out sheet room rs is);
  tried = λ d is. rw w (run-tried text dev out sheet room d is);
}
