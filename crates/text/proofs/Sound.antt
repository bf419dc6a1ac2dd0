-- Where the rules of an accepted text end, no jump is open, and the state is good.
-- Assumes nothing.
use Prim.Native.Nat.{ℕ}
use mathlib.Core.Path.{◌≡◌, refl}
use mathlib.Core.Bool.{Bool, true, false, true≢false}
use mathlib.Core.List.{List, [], ◌∷◌, map}
use Rattle.std.specs.Prelude.{Option, None, Some}
use Rattle.std.proofs.lemmas.Option.{none-some}
use Rattle.lists.specs.Lists.{All}
use Rattle.lists.specs.Checked.{Checked, refused, ok, Holds, Placed, line, in_place}
use Rattle.lists.specs.Refusal.{Refusal}
use Rattle.text.specs.Engine.{Engine, LineRead, skip, fault, rule, Stepped, went}
use Rattle.text.specs.Lines.{is_open, unjoined}
use Rattle.text.specs.Reading.{goes_to, lent_by, read_lent}
use Rattle.text.specs.Running.{Mode, next, seek, Halt, Ran, more, begins, after, started, visit, run_from}
use Rattle.text.specs.Rules.{rules_in}
use Rattle.text.specs.Laws.{Laws}
use Rattle.text.proofs.Settle.{Aimed, Settled}

-- the label that is sought
abbrev pub sought : Mode → Option (List ℕ)
sought next = None
sought (seek g) = Some g

module _ (E : Engine) where
  open E.reader use {Rule, label, goto}
  open E use {Device, State, step}

  -- the rule was read from a line
  abbrev pub FromLine : Placed Rule → Type 0
  FromLine (line n r) = (l : List ℕ) × (E.reader.read_line l ≡ rule r)

  line_read : (n : ℕ) (l : List ℕ) (ls : List (Placed (LineRead Rule))) (x : LineRead Rule) → E.reader.read_line l ≡ x
      → All FromLine (rules_in ls) → All FromLine (rules_in (line n x ∷ ls))
  unfolding rules_in
  line_read n l ls skip e h = h
  line_read n l ls (fault f) e h = h
  line_read n l ls (rule r) e h = ((l, e), h)

  lent_read : (n : ℕ) (l : List ℕ) (ls : List (Placed (LineRead Rule))) (t : Bool) → All FromLine (rules_in ls) → All FromLine (rules_in (line n (lent_by E.reader t l) ∷ ls))
  unfolding rules_in
  lent_read n l ls true h = h
  lent_read n l ls false h = line_read n (unjoined l) ls (E.reader.read_line (unjoined l)) refl h

  pub lines_read : (ls : List (Placed (List ℕ))) → All FromLine (rules_in (map (in_place (read_lent E.reader)) ls))
  unfolding rules_in read_lent
  lines_read [] = tt
  lines_read (line n l ∷ ls) = lent_read n l (map (in_place (read_lent E.reader)) ls) (is_open l) (lines_read ls)

  aimed_after : (held : Bool) (g : Option (List ℕ)) (ps : List (Placed Rule)) → Aimed E g ps → Aimed E (sought (after held g)) ps
  aimed_after false g ps a = tt
  aimed_after true None ps a = tt
  aimed_after true (Some g) ps a = a

  module _ (L : Laws E) (d : Device) where
    pub record Sound (h : Halt State) : Type 0 where
      pub ended : h.mode ≡ next
      pub good : L.Good d h.state

    sound_more : (v t : ℕ) (c : Ran State) → Holds Sound c → Holds Sound (more v t c)
    sound_more v t (refused f) h = tt
    sound_more v t (ok h) s = record { ended = s.ended; good = s.good }

    module _ (n : ℕ) (r : Rule) (ps : List (Placed Rule)) (fl : FromLine (line n r)) (aim : Aimed E (goto r) ps)
        (k : Mode → State → Ran State) (on : (m : Mode) (s : State) → Aimed E (sought m) ps → L.Good d s → Holds Sound (k m s)) where
      started-sound : (t : ℕ) (s : State) → L.Good d s → (c : Checked Refusal (Stepped State)) → step d r s ≡ c → Holds Sound (started E c n t (goto r) k)
      started-sound t s g (refused f) e = tt
      started-sound t s g (ok (went s' held)) e =
          sound_more 1 t (k (after held (goto r)) s')
          (on (after held (goto r)) s' (aimed_after held (goto r) ps aim) (L.keeps fl.1 g e))

      visit-sound : (m : Mode) (s : State) → Aimed E (sought m) (line n r ∷ ps) → L.Good d s → (b : Bool) → begins m (label r) ≡ b → Holds Sound (visit E b d n r m s k)
      unfolding goes_to
      visit-sound m s a g true e = started-sound (E.tried d r s) s g (step d r s) refl
      visit-sound next s a g false e = absurd (true≢false e)
      visit-sound (seek l) s a g false e = on (seek l) s (a.0, rw e at a.1) g

    pub run_sound : (ps : List (Placed Rule)) (m : Mode) (s : State) → Aimed E (sought m) ps → Settled E ps → All FromLine ps → L.Good d s → Holds Sound (run_from E d m s ps)
    unfolding run_from goes_to
    run_sound [] next s a st fl g = record { ended = refl; good = g }
    run_sound [] (seek l) s a st fl g = absurd (none-some a.0 a.1)
    run_sound (line n r ∷ ps) m s a (aim, st) (f, fl) g =
        visit-sound n r ps f aim (λ m' s'. run_from E d m' s' ps) (λ m' s' a' g'. run_sound ps m' s' a' st fl g') m s a g (begins m (label r)) refl
