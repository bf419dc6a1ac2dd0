-- Sanity of runs: no more rules are visited than there are, a jump takes the first rule behind it that has its label, an answer is
-- exactly as long as the target, and the run of an accepted text ends with no jump open.
-- Assumes nothing.
use Prim.Native.Nat.{ℕ, suc, ◌-◌, ◌*◌, ◌≤◌, zero-le, suc-le-suc}
use mathlib.Core.Path.{◌≡◌, refl, sym, ◌∙◌, subst}
use mathlib.Core.Bool.{Bool, true, false}
use mathlib.Core.List.{List, [], ◌∷◌}
use Rattle.std.specs.Prelude.{Option, None, Some}
use Rattle.std.proofs.lemmas.Option.{none-some}
use native.Mathlib.Omega.{arith}
use lib.Dec.{T, leb, leb→le}
use lib.ListN.{length, replicate, length-append, length-replicate}
use Rattle.lists.specs.Bytes.{Bytes}
use Rattle.text.specs.Lines.{lines}
use Rattle.lists.specs.Lists.{pick}
use Rattle.lists.specs.Checked.{Checked, refused, ok, require, found, Holds, Placed, line}
use Rattle.lists.specs.Refusal.{Refusal, target_short, device_bad, outcome_bad}
use Rattle.lists.specs.Sizes.{fullest_outcome}
use Rattle.text.specs.Engine.{Engine, Stepped, went}
use Rattle.text.specs.Reading.{goes_to, has_label, read_text}
use Rattle.text.specs.Running.{Mode, next, seek, Halt, Ran, more, begins, after, started, visit, run_from}
use Rattle.text.specs.Run.{answer, run_checked, run}
use Rattle.text.specs.Rules.{rules_of}
use Rattle.text.specs.Laws.{Laws}
use Rattle.lists.proofs.Checked.{holds-map, holds-bind, holds-seq, holds-require, holds-found}
use Rattle.text.proofs.Texts.{Read, read}
use Rattle.text.proofs.Sound.{Sound, run_sound, lines_read}

module _ (E : Engine) where
  open E.reader use {Rule, label, goto}
  open E use {Device, State, step, device, decode, encode}

  abbrev Few : ℕ → Halt State → Type 0
  Few n h = h.visited ≤ n

  few_more : (n t : ℕ) (c : Ran State) → Holds (Few n) c → Holds (Few (suc n)) (more 1 t c)
  few_more n t (refused f) h = tt
  few_more n t (ok a) h = omega arith

  module _ (d : Device) (n : ℕ) (k : Mode → State → Ran State) (few : (m : Mode) (s : State) → Holds (Few n) (k m s)) where
    few_started : (r : Checked Refusal (Stepped State)) (l t : ℕ) (g : Option (List ℕ)) → Holds (Few (suc n)) (started E r l t g k)
    few_started (refused f) l t g = tt
    few_started (ok (went s held)) l t g = few_more n t (k (after held g) s) (few (after held g) s)

    few_visit : (b : Bool) (l : ℕ) (r : Rule) (m : Mode) (s : State) → Holds (Few (suc n)) (visit E b d l r m s k)
    few_visit false l r m s = holds-map (Few n) (Few (suc n)) (k m s) (few m s) (λ h g. omega arith)
    few_visit true l r m s = few_started (step d r s) l (E.tried d r s) (goto r)

  -- no more rules are visited than there are
  pub visited_few : (d : Device) (ps : List (Placed Rule)) (m : Mode) (s : State) → Holds (λ (h : Halt State). h.visited ≤ length ps) (run_from E d m s ps)
  unfolding run_from
  visited_few d [] m s = zero-le
  visited_few d (line n r ∷ ps) m s = few_visit d (length ps) (λ m' s'. run_from E d m' s' ps) (λ m' s'. visited_few d ps m' s') (begins m (label r)) n r m s

  -- ---- document 02, Item 9: the devices tried

  abbrev Within : ℕ → Halt State → Type 0
  Within size h = h.tried ≤ h.visited * size

  within_more : (size t : ℕ) → t ≤ size → (c : Ran State) → Holds (Within size) c → Holds (Within size) (more 1 t c)
  within_more size t l (refused f) h = tt
  within_more size t l (ok a) h = omega arith

  module _ (d : Device) (size : ℕ) (each : (r : Rule) (s : State) → E.tried d r s ≤ size) (k : Mode → State → Ran State) (on : (m : Mode) (s : State) → Holds (Within size) (k m s)) where
    within-started : (c : Checked Refusal (Stepped State)) (l t : ℕ) (g : Option (List ℕ)) → t ≤ size → Holds (Within size) (started E c l t g k)
    within-started (refused f) l t g h = tt
    within-started (ok (went s held)) l t g h = within_more size t h (k (after held g) s) (on (after held g) s)

    within-visit : (b : Bool) (l : ℕ) (r : Rule) (m : Mode) (s : State) → Holds (Within size) (visit E b d l r m s k)
    within-visit false l r m s = on m s
    within-visit true l r m s = within-started (step d r s) l (E.tried d r s) (goto r) (each r s)

  -- no more devices are tried than so many for each rule that is visited
  pub tried-within : (d : Device) (size : ℕ) → ((r : Rule) (s : State) → E.tried d r s ≤ size) → (ps : List (Placed Rule)) (m : Mode) (s : State)
      → Holds (λ (h : Halt State). h.tried ≤ h.visited * size) (run_from E d m s ps)
  unfolding run_from
  tried-within d size each [] m s = zero-le
  tried-within d size each (line n r ∷ ps) m s =
      within-visit d size each (λ m' s'. run_from E d m' s' ps) (λ m' s'. tried-within d size each ps m' s') (begins m (label r)) n r m s

  -- the rules from the next one with a label on
  unfoldable pub from_label : List ℕ → List (Placed Rule) → List (Placed Rule)
  from_label g [] = []
  from_label g (line n r ∷ ps) = pick (has_label g (label r)) (line n r ∷ ps) (from_label g ps)

  land : (b : Bool) (d : Device) (g : List ℕ) (n : ℕ) (r : Rule) (ps : List (Placed Rule)) (s : State) (l : ℕ)
      → (goes_to E.reader g ps ≡ Some l → run_from E d (seek g) s ps ≡ run_from E d next s (from_label g ps)) → pick b (Some n) (goes_to E.reader g ps) ≡ Some l
      → visit E b d n r (seek g) s (λ m' s'. run_from E d m' s' ps) ≡ run_from E d next s (pick b (line n r ∷ ps) (from_label g ps))
  unfolding run_from
  land true d g n r ps s l f e = refl
  land false d g n r ps s l f e = f e

  -- seeking a label is going on from the next rule with it
  pub seek_lands : (d : Device) (g : List ℕ) (ps : List (Placed Rule)) (s : State) (l : ℕ) → goes_to E.reader g ps ≡ Some l
      → run_from E d (seek g) s ps ≡ run_from E d next s (from_label g ps)
  unfolding run_from goes_to from_label
  seek_lands d g [] s l e = absurd (none-some l e)
  seek_lands d g (line n r ∷ ps) s l e = land (has_label g (label r)) d g n r ps s l (seek_lands d g ps s l) e

  answer-length : (room : ℕ) (c : Ran State) → Holds (λ (h : Halt State). length (encode h.state) ≤ room) c → length (answer E room c).bytes ≡ room
  unfolding answer
  answer-length room (refused (line n f)) h = length-replicate room 0
  answer-length room (ok a) h =
      length-append (encode a.state) (replicate (room - length (encode a.state)) 0)
      ∙ rw (length-replicate {A = ℕ} (room - length (encode a.state)) 0) (omega arith)

  read_holds : (t : List ℕ) (c : Checked (Placed Refusal) (List (Placed Rule))) → read_text E.reader t ≡ c → Holds (Read E t) c
  read_holds t (refused (line n f)) e = tt
  read_holds t (ok rs) e = read E t rs e

  module _ (L : Laws E) (t dev out : List ℕ) (room : ℕ) (by : Bytes out) where
    run_fits : Holds (λ (h : Halt State). length (encode h.state) ≤ room) (run_checked E t dev out room)
    unfolding run_checked rules_of
    run_fits =
        let Q : Halt State → Type 0 = λ h. length (encode h.state) ≤ room in
        holds-seq (λ (_ : Unit {0}). leb fullest_outcome room ≡ true) Q (require (leb fullest_outcome room) (line 0 target_short)) _ (holds-require (leb fullest_outcome room) (line 0 target_short))
        (λ _ full. holds-bind (Read E t) Q (read_text E.reader t) _ (read_holds t (read_text E.reader t) refl)
        (λ rs r. holds-bind (λ (d : Device). device dev ≡ Some d) Q (found (device dev) (line 0 device_bad)) _ (holds-found (device dev) (line 0 device_bad))
        (λ d is. holds-bind (λ (s : State). decode d out ≡ Some s) Q (found (decode d out) (line 0 outcome_bad)) _ (holds-found (decode d out) (line 0 outcome_bad))
        (λ s at. holds-map (Sound E L d) Q (run_from E d next s rs)
        (rw r.same (run_sound E L d (rules_of E.reader t) next s tt r.parts.settled (lines_read E (lines t)) (L.starts by is at)))
        (λ h k. omega (arith, L.fits k.good, leb→le fullest_outcome room (subst T (sym full) tt)))))))

    -- whatever is run, the answer has as many bytes as the target
    pub run_length : length (run E t dev out room).bytes ≡ room
    unfolding run
    run_length = answer-length room (run_checked E t dev out room) run_fits

  -- the run of an accepted text ends in the running mode
  pub run_ends : (L : Laws E) (t : List ℕ) (rs : List (Placed Rule)) → read_text E.reader t ≡ ok rs → (d : Device) (s : State) → L.Good d s
      → Holds (λ (h : Halt State). h.mode ≡ next) (run_from E d next s rs)
  unfolding rules_of
  run_ends L t rs e d s g =
      let r = read E t rs e in
      holds-map (Sound E L d) (λ (h : Halt State). h.mode ≡ next) (run_from E d next s rs)
      (rw r.same (run_sound E L d (rules_of E.reader t) next s tt r.parts.settled (lines_read E (lines t)) g)) (λ h k. k.ended)
