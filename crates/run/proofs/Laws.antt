-- What a run gives back in each case.
-- Assumes nothing.
use Prim.Native.Nat.{ℕ, ◌-◌, ◌≤◌, ◌<◌}
use mathlib.Core.Path.{◌≡◌, sym, ap, ap₂, ◌∙◌, subst}
use mathlib.Core.Bool.{false}
use mathlib.Core.List.{List}
use Rattle.std.specs.Prelude.{None, Some}
use borrow.Author.Tests.{le-leb, lt-leb}
use lib.ListN.{length}
use Rattle.lists.proofs.Lists.{is_none}
use Rattle.lists.specs.Lists.{is_some}
use Rattle.lists.specs.Bytes.{Bytes}
use Rattle.lists.specs.Checked.{refused, ok, Placed, line}
use Rattle.lists.specs.Refusal.{Refusal, target_short, device_bad, outcome_bad, sheet_bad}
use Rattle.lists.specs.Sizes.{fullest_outcome}
use Rattle.rules.specs.Pair.{Rule}
use Rattle.rules.specs.Reading.{reader}
use Rattle.text.specs.Reading.{read_text}
use Rattle.text.specs.Running.{Halt, Ran, next, run_from}
use Rattle.text.specs.Run.{Answer, refusal, acceptance}
use Rattle.device.specs.Device as D
use Rattle.device.specs.Device.{Device, chain}
use Rattle.device_lookup.specs.Lookup.{Chained}
use Rattle.device_lookup.specs.declared.Chain.{Chain}
use Rattle.outcome.specs.State as O
use Rattle.outcome.specs.State.{State, encode}
use Rattle.outcome.proofs.RoundTrip.{back}
use Rattle.outcome.proofs.Fits.{fits}
use Rattle.outcome_target.specs.Held as target
use Rattle.outcome_target.specs.declared.Layout.{Layout}
use Rattle.outcome_target.proofs.Edits.{layout_end}
use Rattle.outcome_check.proofs.Answers.{sound-state, faulty-state}
use Rattle.outcome_check.specs.Check.{checked_of}
use Rattle.sheet.specs.Sheet as Sheets
use Rattle.sheet.specs.Sheet.{Sheet}
use Rattle.engine.specs.Operations.{engine, decode_for, run_checked, ran, run}
use Rattle.answers.specs.Answers.{answered, Accepts}
use Rattle.answers.specs.declared.Given.{Given}
use Rattle.run.specs.Running.{Held}

-- ---- in turn

module _ (t dev out sheet : List ℕ) (room : ℕ) where
  pub run_short : room < fullest_outcome → run t dev out sheet room ≡ refusal room (line 0 target_short)
  unfolding run ran run_checked
  run_short h = rw (lt-leb fullest_outcome room h)

  module _ (h : fullest_outcome ≤ room) where
    pub run-text : (f : Placed Refusal) → read_text reader t ≡ refused f → run t dev out sheet room ≡ refusal room f
    unfolding run ran run_checked
    run-text f e = rw (le-leb fullest_outcome room h, e)

    module _ (rs : List (Placed Rule)) (e : read_text reader t ≡ ok rs) where
      pub run_device : is_some (D.decode dev) ≡ false → run t dev out sheet room ≡ refusal room (line 0 device_bad)
      unfolding run ran run_checked
      run_device k = rw (le-leb fullest_outcome room h, e, is_none (D.decode dev) k)

      module _ (d : Device) (f : D.decode dev ≡ Some d) (r : Chain) (c : Chained d r) where
        pub run_outcome : None ≡ checked_of (O.decode r.len out) → run t dev out sheet room ≡ refusal room (line 0 outcome_bad)
        unfolding run ran run_checked decode_for
        run_outcome k =
            let g : O.decode (length (chain d)) out ≡ None = ap (λ (n : ℕ). O.decode n out) (sym c.len) ∙ faulty-state (O.decode r.len out) k in
            rw (le-leb fullest_outcome room h, e, f, g)

      module _ (r : Chain) (lay : Layout) (d : Device) (s : State) (w : Held dev out r lay d s) where
        pub run_sheet : is_some (Sheets.decode sheet) ≡ false → run t dev out sheet room ≡ refusal room (line 0 sheet_bad)
        unfolding run ran run_checked decode_for
        run_sheet k = rw (le-leb fullest_outcome room h, e, w.device, w.outcome, is_none (Sheets.decode sheet) k)

        pub run-whole : (a : Sheet) → Sheets.decode sheet ≡ Some a → run t dev out sheet room ≡ ran room (run_from (engine a) d next s rs)
        unfolding run run_checked decode_for
        run-whole a k = rw (le-leb fullest_outcome room h, e, w.device, w.outcome, k)

-- both records are sound
pub both_held : (dev out : List ℕ) (d : Device) → D.decode dev ≡ Some d → (r : Chain) → Chained d r → (lay : Layout) → Some lay ≡ checked_of (O.decode r.len out)
    → (s : State) × Held dev out r lay d s
both_held dev out d e r c lay k =
    let (s, f, g) = sound-state (O.decode r.len out) lay k in
    (s, record { device = e; chained = c; outcome = ap (λ (n : ℕ). O.decode n out) (sym c.len) ∙ f; layout = g })

-- ---- sound records

pub record_short : (dev rec : List ℕ) (r : Chain) (lay : Layout) (d : Device) (s : State) → Bytes rec → Held dev rec r lay d s → length rec ≤ fullest_outcome
record_short dev rec r lay d s b w =
    let (e, g) = back (length (chain d)) rec s b w.outcome in
    subst (λ (l : List ℕ). length l ≤ fullest_outcome) e (fits (length (chain d)) s g)

-- the target of a run that ended
module _ (n : ℕ) (l : List ℕ) (lay : Layout) (s : State) (w : target.Held n l lay s) where
  pub used_is : lay.end ≡ length (encode s)
  used_is = ap (λ (x : Layout). x.end) w.layout ∙ layout_end s

  pub used_few : lay.end ≤ fullest_outcome
  used_few = subst (λ (k : ℕ). k ≤ fullest_outcome) (sym used_is) (fits n s w.good)

pub ended-answer : (room : ℕ) (c : Ran State) (h : Halt State) → c ≡ ok h → acceptance room h.visited h.tried (encode h.state) ≡ ran room c
unfolding ran
ended-answer room c h e = rw e

pub refused-answer : (room : ℕ) (c : Ran State) (f : Placed Refusal) → c ≡ refused f → refusal room f ≡ ran room c
unfolding ran
refused-answer room c f e = rw e

pub sound-ended : (room n : ℕ) (l : List ℕ) (lay : Layout) (v u : ℕ) (c : Ran State) (h : Halt State) → c ≡ ok h → target.Held n l lay h.state → v ≡ h.visited → u ≡ h.tried → length l ≡ room
    → (g : Given) → Accepts g v u lay.end → answered g l ≡ ran room c
sound-ended room n l lay v u c h e w i j m g k =
    ap (answered g) w.bytes
    ∙ k (length l) (encode h.state) (used_is n l lay h.state w)
    ∙ ap (λ (x : ℕ). acceptance x v u (encode h.state)) m
    ∙ ap₂ (λ (x y : ℕ). acceptance room x y (encode h.state)) i j
    ∙ ended-answer room c h e

pub sound-refused : (room m : ℕ) → m ≡ room → (c : Ran State) (f : Placed Refusal) → c ≡ refused f → (x : Answer) → x ≡ refusal m f → x ≡ ran room c
sound-refused room m e c f q x k = k ∙ ap (λ (n : ℕ). refusal n f) e ∙ refused-answer room c f q
